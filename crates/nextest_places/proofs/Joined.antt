-- A document read in two parts.
use Rattle.std.proofs.Common.{◌≡◌, ℕ, zero, suc, ◌+◌, ◌≤◌, Bool, true, false, ◌==◌, List, [], length, Option, Some, None, is_some, unwrap_or, option_and_then, refl, sym, ◌∙◌, inl, inr, ◌⊎◌, arith}
use Rattle.std.proofs.lemmas.Bool.{cases_Bool}
use Rattle.std.proofs.lemmas.Option.{none-some, same_Some}
use Rattle.toml_parser.specs.Lexical.{Read, first, skip_turn, skip_from, skip_blank}
use Rattle.toml.specs.Tables.{Document, Expression, define}
use Rattle.toml.specs.Parse.{line, lines}
use Rattle.nextest_places.proofs.GoesOn.{GoesOn, here, next, first_same}
use Rattle.nextest_places.proofs.Kept.{Kept}
use Rattle.nextest_places.proofs.Values.{line_kept}
use Rattle.nextest_places.proofs.Documents.{after_line, not_over, not_over_long}

-- white space, newlines and comments, up to where the text goes on
skip_joined : {behind : List ℕ} → (comments : Bool) (x y : List ℕ) → GoesOn behind x y → (inside : Bool)
    → ((skip_from comments inside x ≡ []) × (skip_from comments inside y ≡ skip_from comments false behind))
    ⊎ GoesOn behind (skip_from comments inside x) (skip_from comments inside y)
unfolding skip_from
skip_joined comments x y here inside = inl (refl, refl)
skip_joined comments x y (next c xs ys g) inside =
    let turn = skip_turn comments inside c (first xs) in
    rw (← first_same xs ys g) (elim (cases_Bool (is_some turn)) [
      | inl more ↦ rw more (skip_joined comments xs ys g (unwrap_or turn false))
      | inr stop ↦ rw stop (inr (next c xs ys g))
    ])

-- more turns
defined_fuel : (last : Document) (f h : Document → Option Document) (o : Option Document)
    → ((a : Document) → f a ≡ Some last → h a ≡ Some last) → option_and_then f o ≡ Some last
    → option_and_then h o ≡ Some last
defined_fuel last f h None rec x = absurd (none-some last x)
defined_fuel last f h (Some a) rec x = rec a x

after_fuel : (n m : ℕ) (doc last : Document) (r : Read Expression)
    → ((a : Document) (z : List ℕ) → lines n a z ≡ Some last → lines m a z ≡ Some last)
    → after_line n doc r ≡ Some last → after_line m doc r ≡ Some last
after_fuel n m doc last None rec x = absurd (none-some last x)
after_fuel n m doc last (Some e) rec x =
    defined_fuel last (λ next. lines n next e.1) (λ next. lines m next e.1) (define doc e.0) (λ a h. rec a e.1 h) x

more_fuel : (n m : ℕ) (doc last : Document) (x : List ℕ) → n ≤ m → lines n doc x ≡ Some last → lines m doc x ≡ Some last
unfolding lines
more_fuel zero m doc last x h a = absurd (none-some last a)
more_fuel (suc n) zero doc last x h a = absurd (omega (arith, h))
more_fuel (suc n) (suc m) doc last x h a =
    elim (cases_Bool (length (skip_blank x) == 0)) [
      | inl over ↦ rw over (rw over at a)
      | inr more ↦ rw more (after_fuel n m doc last (line (skip_blank x))
          (λ b z k. more_fuel n m b last z (omega (arith, h)) k) (rw more at a))
    ]

same_blank : (n : ℕ) (doc : Document) (x y : List ℕ) → skip_blank x ≡ skip_blank y
    → lines (suc n) doc x ≡ lines (suc n) doc y
unfolding lines
same_blank n doc x y e = rw e refl

-- a document read on over more text
defined_on : (mid last : Document) (f h : Document → Option Document) (o : Option Document)
    → ((a : Document) → f a ≡ Some mid → h a ≡ Some last) → option_and_then f o ≡ Some mid
    → option_and_then h o ≡ Some last
defined_on mid last f h None rec x = absurd (none-some mid x)
defined_on mid last f h (Some a) rec x = rec a x

joined_after : {behind : List ℕ} → (n k : ℕ) (doc mid last : Document) (r q : Read Expression) → Kept behind r q
    → ((a : Document) (v w : List ℕ) → GoesOn behind v w → lines n a v ≡ Some mid → lines k a w ≡ Some last)
    → after_line n doc r ≡ Some mid → after_line k doc q ≡ Some last
joined_after n k doc mid last None q kept rec x = absurd (none-some mid x)
joined_after n k doc mid last (Some e) q kept rec x =
    let (w, g, same) = kept in
    rw same (defined_on mid last (λ next. lines n next e.1) (λ next. lines k next w) (define doc e.0)
    (λ a u. rec a e.1 w g u) x)

pub joined_runs : {behind : List ℕ} → (n m : ℕ) (doc mid last : Document) (x y : List ℕ) → GoesOn behind x y
    → lines n doc x ≡ Some mid → lines (suc m) mid behind ≡ Some last → lines (n + m) doc y ≡ Some last
unfolding lines
joined_runs zero m doc mid last x y g a b = absurd (none-some mid a)
joined_runs {behind} (suc n) m doc mid last x y g a b =
    let turns : suc n + m ≡ suc (n + m) = omega arith in
    elim (skip_joined true x y g false) [
      | inl over ↦
          let is : doc ≡ mid = same_Some doc mid (rw over.0 at a) in
          rw turns (same_blank (n + m) doc y behind over.1
          ∙ more_fuel (suc m) (suc (n + m)) doc last behind (omega arith) (rw is b))
      | inr rest ↦
          let some = not_over (skip_blank x) (skip_blank y) rest in
          let some_long = not_over_long (skip_blank x) (skip_blank y) rest in
          rw (turns, some_long) (joined_after n (n + m) doc mid last (line (skip_blank x))
          (line (skip_blank y)) (line_kept _ _ rest) (λ c v w h i. joined_runs n m c mid last v w h i b)
          (rw some at a))
    ]

-- and its end, read alone
split_defined : (behind : List ℕ) (mid last : Document) (f h : Document → Option Document) (o : Option Document)
    → ((a : Document) → f a ≡ Some mid → h a ≡ Some last → (k : ℕ) × (lines k mid behind ≡ Some last))
    → option_and_then f o ≡ Some mid → option_and_then h o ≡ Some last → (k : ℕ) × (lines k mid behind ≡ Some last)
split_defined behind mid last f h None rec x y = absurd (none-some mid x)
split_defined behind mid last f h (Some a) rec x y = rec a x y

split_after : (behind : List ℕ) (n m : ℕ) (doc mid last : Document) (r q : Read Expression) → Kept behind r q
    → ((a : Document) (v w : List ℕ) → GoesOn behind v w → lines n a v ≡ Some mid → lines m a w ≡ Some last
    → (k : ℕ) × (lines k mid behind ≡ Some last))
    → after_line n doc r ≡ Some mid → after_line m doc q ≡ Some last → (k : ℕ) × (lines k mid behind ≡ Some last)
split_after behind n m doc mid last None q kept rec x y = absurd (none-some mid x)
split_after behind n m doc mid last (Some e) q kept rec x y =
    let (w, g, same) = kept in
    split_defined behind mid last (λ next. lines n next e.1) (λ next. lines m next w) (define doc e.0)
    (λ a u v. rec a e.1 w g u v) x (rw same at y)

pub split_runs : {behind : List ℕ} → (n m : ℕ) (doc mid last : Document) (x y : List ℕ) → GoesOn behind x y
    → lines n doc x ≡ Some mid → lines m doc y ≡ Some last → (k : ℕ) × (lines k mid behind ≡ Some last)
unfolding lines
split_runs zero m doc mid last x y g a b = absurd (none-some mid a)
split_runs (suc n) zero doc mid last x y g a b = absurd (none-some last b)
split_runs {behind} (suc n) (suc m) doc mid last x y g a b =
    elim (skip_joined true x y g false) [
      | inl over ↦
          let is : doc ≡ mid = same_Some doc mid (rw over.0 at a) in
          (suc m, rw (← is) (sym (same_blank m doc y behind over.1) ∙ b))
      | inr rest ↦
          let some = not_over (skip_blank x) (skip_blank y) rest in
          let some_long = not_over_long (skip_blank x) (skip_blank y) rest in
          split_after behind n m doc mid last (line (skip_blank x)) (line (skip_blank y)) (line_kept _ _ rest)
          (λ c v w h i k. split_runs n m c mid last v w h i k) (rw some at a) (rw some_long at b)
    ]
