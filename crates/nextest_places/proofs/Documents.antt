-- A document, and a longer one that begins with its lines.
use Rattle.std.proofs.Common.{◌≡◌, ℕ, zero, suc, true, false, ◌&&◌, ◌==◌, List, [], ◌∷◌, ◌++◌, length, Option, Some, None, option_map, option_and_then, refl, subst, inl, inr, arith}
use Rattle.std.proofs.lemmas.Bool.{cases_Bool}
use Rattle.std.proofs.lemmas.Bool.Decides.{nat_tests}
use Rattle.std.proofs.lemmas.Option.{none-some, same_Some}
use Rattle.toml_parser.specs.Lexical.{Read, first, skip_blank}
use Rattle.toml.specs.Data.{Members, table}
use Rattle.toml.specs.Tables.{no_nodes, close, Document, Expression, define}
use Rattle.toml.specs.Parse.{line, lines, skip_bom, parse_document}
use Rattle.nextest_places.proofs.GoesOn.{GoesOn, here, next, first_same, after_first, skip_grown}
use Rattle.nextest_places.proofs.Kept.{Kept}
use Rattle.nextest_places.proofs.Values.{line_kept}
use Rattle.nextest_places.proofs.Stands.{Grows}
use Rattle.nextest_places.proofs.NodesGrow.{NodesGrow, table_grows, define_grows}

-- the lines after an expression
abbrev pub after_line : ℕ → Document → Read Expression → Option Document
after_line n doc r = option_and_then (λ e. option_and_then (λ next. lines n next e.1) (define doc e.0)) r

then_grows : (doc last : Document) (made : Option Document) (rest : Document → Option Document)
    → ((next : Document) → made ≡ Some next → NodesGrow doc.0 next.0)
    → ((next : Document) → rest next ≡ Some last → NodesGrow next.0 last.0)
    → option_and_then rest made ≡ Some last → NodesGrow doc.0 last.0
then_grows doc last None rest one two h = absurd (none-some last h)
then_grows doc last (Some step) rest one two h = λ k path g. two step h k path (one step refl k path g)

after_grows : (n : ℕ) (doc last : Document) (r : Read Expression)
    → ((next : Document) (y : List ℕ) → lines n next y ≡ Some last → NodesGrow next.0 last.0)
    → after_line n doc r ≡ Some last → NodesGrow doc.0 last.0
after_grows n doc last None more h = absurd (none-some last h)
after_grows n doc last (Some e) more h =
    then_grows doc last (define doc e.0) (λ next. lines n next e.1)
    (λ next made. define_grows doc next e.0 made) (λ next rest. more next e.1 rest) h

-- the lines of a document only add to it
lines_grow : (n : ℕ) (doc last : Document) (y : List ℕ) → lines n doc y ≡ Some last → NodesGrow doc.0 last.0
unfolding lines
lines_grow zero doc last y h = absurd (none-some last h)
lines_grow (suc n) doc last y h =
    elim (cases_Bool (length (skip_blank y) == 0)) [
      | inl over ↦ subst (λ d. NodesGrow doc.0 d.0) (same_Some doc last (rw over at h)) (λ k path g. g)
      | inr more ↦ after_grows n doc last (line (skip_blank y)) (λ next z i. lines_grow n next last z i) (rw more at h)
    ]

then_keeps : (short long : Document) (made : Option Document) (f h : Document → Option Document)
    → ((next : Document) → f next ≡ Some short → h next ≡ Some long → NodesGrow short.0 long.0)
    → option_and_then f made ≡ Some short → option_and_then h made ≡ Some long → NodesGrow short.0 long.0
then_keeps short long None f h keeps a b = absurd (none-some short a)
then_keeps short long (Some step) f h keeps a b = keeps step a b

after_keeps : {behind : List ℕ} → (n m : ℕ) (doc short long : Document) (r s : Read Expression) → Kept behind r s
    → ((next : Document) (v w : List ℕ) → GoesOn behind v w → lines n next v ≡ Some short
    → lines m next w ≡ Some long → NodesGrow short.0 long.0)
    → after_line n doc r ≡ Some short → after_line m doc s ≡ Some long → NodesGrow short.0 long.0
after_keeps n m doc short long None s k keeps a b = absurd (none-some short a)
after_keeps n m doc short long (Some e) s k keeps a b =
    let (w, g, same) = k in
    then_keeps short long (define doc e.0) (λ next. lines n next e.1) (λ next. lines m next w)
    (λ next c d. keeps next e.1 w g c d) a (rw same at b)

pub not_over : {behind : List ℕ} → (x y : List ℕ) → GoesOn behind x y → (length x == 0) ≡ false
not_over x y here = refl
not_over x y (next c xs ys g) = grind (arith, nat_tests)

pub not_over_long : {behind : List ℕ} → (x y : List ℕ) → GoesOn behind x y → (length y == 0) ≡ false
not_over_long x y here = grind (arith, nat_tests)
not_over_long x y (next c xs ys g) = grind (arith, nat_tests)

lines_keep : {behind : List ℕ} → (n m : ℕ) (doc short long : Document) (x y : List ℕ) → GoesOn behind x y
    → lines n doc x ≡ Some short → lines m doc y ≡ Some long → NodesGrow short.0 long.0
unfolding lines
lines_keep zero m doc short long x y g a b = absurd (none-some short a)
lines_keep (suc n) zero doc short long x y g a b = absurd (none-some long b)
lines_keep (suc n) (suc m) doc short long x y g a b =
    elim (skip_grown true x y g false) [
      | inl over ↦ subst (λ d. NodesGrow d.0 long.0) (same_Some doc short (rw over at a))
          (lines_grow (suc m) doc long y b)
      | inr rest ↦
          let some = not_over (skip_blank x) (skip_blank y) rest in
          let long_some = not_over_long (skip_blank x) (skip_blank y) rest in
          after_keeps n m doc short long (line (skip_blank x)) (line (skip_blank y)) (line_kept _ _ rest)
          (λ next v w h c d. lines_keep n m next short long v w h c d) (rw some at a) (rw long_some at b)
    ]

pub grown_from : (text more : List ℕ) → GoesOn more (text ++ 10 ∷ []) (text ++ 10 ∷ more)
grown_from [] more = here
grown_from (c ∷ text) more = next c _ _ (grown_from text more)

no_bom : (c : ℕ) → (c == 0xEF && false) ≡ false
no_bom c = grind (arith, nat_tests)

pub bom_grown : {behind : List ℕ} → (x y : List ℕ) → GoesOn behind x y → GoesOn behind (skip_bom x) (skip_bom y)
unfolding skip_bom
bom_grown x y here = here
bom_grown x y (next c xs ys here) = rw (no_bom c) (next c xs ys here)
bom_grown x y (next c xs ys (next d us vs g)) =
    rw (← first_same us vs g) (elim (cases_Bool ((c == 0xEF && d == 0xBB) && first us == 0xBF)) [
      | inl bom ↦
          let other : (first us == 10) ≡ false = grind (arith, nat_tests) in
          rw bom (after_first us vs g other)
      | inr none ↦ rw none (next c xs ys (next d us vs g))
    ])

pub closed : (o : Option Document) (ms : Members) → option_map (λ doc. close doc.0) o ≡ Some ms
    → (doc : Document) × (o ≡ Some doc) × (close doc.0 ≡ ms)
closed None ms h = absurd (none-some ms h)
closed (Some doc) ms h = (doc, refl, same_Some _ ms h)

pub documents_keep : (text more : List ℕ) (short long : Members)
    → parse_document (text ++ 10 ∷ []) ≡ Some short → parse_document (text ++ 10 ∷ more) ≡ Some long
    → Grows (table short) (table long)
unfolding parse_document
documents_keep text more short long a b =
    let (one, read, is) = closed _ short a in
    let (two, read_long, is_long) = closed _ long b in
    let g = bom_grown _ _ (grown_from text more) in
    rw (← is, ← is_long) (table_grows one.0 two.0 (lines_keep _ _ (no_nodes, []) one two _ _ g read read_long))
