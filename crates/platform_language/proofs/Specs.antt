-- A text is read to a spec exactly if it writes one.
use Rattle.std.proofs.Common.{◌≡◌, ◌⊎◌, inl, inr, ℕ, suc, ◌+◌, ◌<◌, ◌==◌, ltb, Bool, true, false, not, cond, List, [], ◌∷◌, ◌++◌, Option, None, Some, Result, Ok, Err, IfOk, IfErr, length, get_or, codes, if◌then◌else◌, refl, sym, ◌∙◌, ap, subst, arith, lit<, length-append}
use Rattle.std.proofs.lemmas.Bool.{ltb-true, lt-ltb}
use Rattle.std.proofs.lemmas.Bool.Decides.{eqb_tells}
use Rattle.std.proofs.lemmas.Str.{IsUtf8-take, IsCharBoundary-before_ascii}
use Rattle.std.specs.List.{list_all, position_or_len}
use Rattle.std.specs.Result.{result_map_both}
use Rattle.std.specs.Str.{IsUtf8}
use Rattle.platform_language.specs.declared.fault.BodyFault.{BodyFault}
use Rattle.platform_language.specs.declared.fault.FaultKind.TheVariants.{EmptyText}
use Rattle.platform_language.specs.declared.fault.TargetSpecFault.{TargetSpecFault}
use Rattle.platform_language.specs.declared.expression.TargetSpec.{TargetSpec}
use Rattle.platform_language.specs.declared.spec.TargetSpecError.{TargetSpecError}
use Rattle.platform_language.specs.declared.spec.TargetSpecError.TheVariants.{Refused, Memory}
use Rattle.platform_language.specs.Expressions.{Expression, Spec, OfTriple, OfExpression, spec_view}
use Rattle.platform_language.specs.Faults.{in_text}
use Rattle.platform_language.specs.Reading.{read_body}
use Rattle.platform_language.specs.Texts.{is_triple_byte, IsSpec, text_fault, after_prefix, before_close, first_bad, triple_but, expression_in, spec_behind, spec_in, IfRefused}
use Rattle.platform_language.proofs.Bodies.{body_is_read, read_is_body}
use Rattle.platform_language.proofs.Prefixes.{after_own, after_is}
use Rattle.platform_language.proofs.Suffixes.{own_front, front_is}
use Rattle.platform_language.proofs.Words.{byte_off, take_own}

abbrev Read : Type 0
Read = Result Spec TargetSpecFault

-- Bytes of triples.

abbrev bad_at : (ℕ → Bool) → List ℕ → ℕ
bad_at q xs = position_or_len (λ c. not (q c)) xs

abbrev Tells : (ℕ → Bool) → List ℕ → Type 0
Tells q xs = ((list_all q xs ≡ true) × (bad_at q xs ≡ length xs))
    ⊎ ((list_all q xs ≡ false) × (bad_at q xs < length xs))

one_later : (n : ℕ) → 1 + n ≡ suc n
one_later n = omega arith

later : (q : ℕ → Bool) (c : ℕ) (xs : List ℕ) → q c ≡ true → bad_at q (c ∷ xs) ≡ suc (bad_at q xs)
later q c xs is = rw is (one_later (bad_at q xs))

here : (q : ℕ → Bool) (c : ℕ) (xs : List ℕ) → q c ≡ false → bad_at q (c ∷ xs) ≡ 0
here q c xs is = rw is refl

tells_by : (q : ℕ → Bool) (c : ℕ) (xs : List ℕ) (b : Bool) → q c ≡ b → Tells q xs → Tells q (c ∷ xs)
tells_by q c xs true is (inl (all, at)) = inl (rw (is, all) refl, later q c xs is ∙ ap suc at)
tells_by q c xs true is (inr (some, at)) =
    let size = later q c xs is in inr (rw (is, some) refl, omega (arith, at, size))
tells_by q c xs false is known =
    let size = here q c xs is in inr (rw is refl, omega (arith, size))

tells : (q : ℕ → Bool) (xs : List ℕ) → Tells q xs
tells q [] = inl (refl, refl)
tells q (c ∷ xs) = tells_by q c xs (q c) refl (tells q xs)

not_below : (n : ℕ) → ltb n n ≡ false
not_below n = by_bool (ltb n n) refl
  where
    by_bool : (b : Bool) → ltb n n ≡ b → b ≡ false
    by_bool false is = refl
    by_bool true is = absurd (let below : n < n = ltb-true n n is in omega (arith, below))

none_bad : (xs : List ℕ) → list_all is_triple_byte xs ≡ true → first_bad xs ≡ None
none_bad xs all =
    elim (tells is_triple_byte xs) [
      | inl it ↦ (let n = bad_at is_triple_byte xs in
          ap (λ k. cond (ltb n k) (Some n) None) (sym it.1) ∙ ap (λ b. cond b (Some n) None) (not_below n))
      | inr it ↦ absurd (let clash : true ≡ false = sym all ∙ it.0 in cc)
    ]

all_fine : (xs : List ℕ) → first_bad xs ≡ None → list_all is_triple_byte xs ≡ true
all_fine xs none =
    elim (tells is_triple_byte xs) [
      | inl it ↦ it.0
      | inr it ↦ absurd (let n = bad_at is_triple_byte xs in
          let clash : Some n ≡ None = sym (ap (λ b. cond b (Some n) None) (lt-ltb n (length xs) it.1)) ∙ none in cc)
    ]

no_length : (xs : List ℕ) → 0 < length xs → (length xs == 0) ≡ false
no_length xs some =
    elim (eqb_tells (length xs) 0)
    [ inl is ↦ (let none : length xs ≡ 0 = is.1 in absurd (omega (arith, none, some))) | inr other ↦ other.0 ]

some_length : (xs : List ℕ) → (length xs == 0) ≡ false → 0 < length xs
some_length xs e =
    elim (eqb_tells (length xs) 0)
    [ inl is ↦ absurd (let clash : true ≡ false = sym is.0 ∙ e in cc) | inr other ↦ omega (arith, other.1) ]

-- A triple is not an expression.
no_cfg : (xs : List ℕ) (found : Option (List ℕ)) → after_prefix (codes "cfg(") xs ≡ found
    → list_all is_triple_byte xs ≡ true → found ≡ None
no_cfg xs None is all = refl
no_cfg xs (Some rest) is all =
    absurd (let clash : false ≡ true =
    sym (ap (list_all is_triple_byte) (after_is (codes "cfg(") xs rest is)) ∙ all in cc)

-- Bodies are texts.
get_own : (xs ys : List ℕ) (c : ℕ) → get_or (xs ++ (c ∷ ys)) (length xs) 0 ≡ c
get_own [] ys c = refl
get_own (x ∷ xs) ys c = get_own xs ys c

pub body_utf8 : (body : List ℕ) → IsUtf8 (codes "cfg(" ++ (body ++ (41 ∷ []))) → IsUtf8 body
body_utf8 body utf8 =
    let whole = body ++ (41 ∷ []) in
    let inside : IsUtf8 whole =
    byte_off 40 whole (lit< tt)
    (byte_off 103 (40 ∷ whole) (lit< tt)
    (byte_off 102 (103 ∷ 40 ∷ whole) (lit< tt) (byte_off 99 (102 ∷ 103 ∷ 40 ∷ whole) (lit< tt) utf8))) in
    let size : length whole ≡ length body + 1 = length-append body (41 ∷ []) in
    let below : length body < length whole = omega (arith, size) in
    let small : get_or whole (length body) 0 < 128 = subst (λ n. n < 128) (sym (get_own body [] 41)) (lit< tt) in
    subst IsUtf8 (take_own body (41 ∷ []))
    (IsUtf8-take whole (length body) inside (IsCharBoundary-before_ascii whole (length body) below small))

-- What is written is read.
triple_read : (xs : List ℕ) → 0 < length xs → list_all is_triple_byte xs ≡ true → spec_in xs ≡ Ok (OfTriple xs)
triple_read xs some all =
    ap (spec_behind xs) (no_cfg xs (after_prefix (codes "cfg(") xs) refl all)
    ∙ ap (λ b. if b then (let r : Read = Err (text_fault EmptyText 0 0 None) in r) else triple_but xs
    (first_bad xs)) (no_length xs some)
    ∙ ap (triple_but xs) (none_bad xs all)

pub spec_is_read : (text : List ℕ) (s : Spec) → IsUtf8 text → IsSpec text s → spec_in text ≡ Ok s
spec_is_read text (OfTriple triple) utf8 (same, some, all) =
    ap spec_in same ∙ triple_read triple some all
spec_is_read text (OfExpression e) utf8 (body, is, writes) =
    let inside = body ++ (41 ∷ []) in
    let read = body_is_read body e (body_utf8 body (subst IsUtf8 is utf8)) writes in
    ap (spec_behind text) (ap (after_prefix (codes "cfg(")) is ∙ after_own (codes "cfg(") inside)
    ∙ ap (expression_in text) (own_front body)
    ∙ ap (result_map_both OfExpression (in_text (length text))) read

-- What is read is written.
by_bad : (text : List ℕ) (s : Spec) (found : Option ℕ) → first_bad text ≡ found → 0 < length text
    → triple_but text found ≡ Ok s → IsSpec text s
by_bad text s (Some at) is some e = absurd (cc)
by_bad text s None is some e =
    let same : OfTriple text ≡ s = cc in
    subst (IsSpec text) same (refl, some, all_fine text is)

by_length : (text : List ℕ) (s : Spec) (b : Bool) → (length text == 0) ≡ b
    → (if b then (let r : Read = Err (text_fault EmptyText 0 0 None) in r) else triple_but text
    (first_bad text)) ≡ Ok s → IsSpec text s
by_length text s true is e = absurd (cc)
by_length text s false is e = by_bad text s (first_bad text) refl (some_length text is) e

by_read : (text body : List ℕ) (s : Spec) (found : Result Expression BodyFault) → IsUtf8 text
    → text ≡ codes "cfg(" ++ (body ++ (41 ∷ []))
    → read_body body ≡ found → result_map_both OfExpression (in_text (length text)) found ≡ Ok s → IsSpec text s
by_read text body s (Err fault) utf8 shape is e = absurd (cc)
by_read text body s (Ok x) utf8 shape is e =
    let same : OfExpression x ≡ s = cc in
    subst (IsSpec text) same (body, shape, read_is_body body x (body_utf8 body (subst IsUtf8 shape utf8)) is)

by_close : (text inside : List ℕ) (s : Spec) (found : Option (List ℕ)) → IsUtf8 text → text ≡ codes "cfg(" ++ inside
    → before_close inside ≡ found → expression_in text found ≡ Ok s → IsSpec text s
by_close text inside s None utf8 shape is e = absurd (cc)
by_close text inside s (Some body) utf8 shape is e =
    by_read text body s (read_body body) utf8 (shape ∙ ap (λ l. codes "cfg(" ++ l) (front_is inside body is)) refl e

by_cfg : (text : List ℕ) (s : Spec) (found : Option (List ℕ)) → IsUtf8 text
    → after_prefix (codes "cfg(") text ≡ found → spec_behind text found ≡ Ok s → IsSpec text s
by_cfg text s None utf8 is e = by_length text s (length text == 0) refl e
by_cfg text s (Some inside) utf8 is e =
    by_close text inside s (before_close inside) utf8 (after_is (codes "cfg(") text inside is) refl e

pub read_is_spec : (text : List ℕ) (s : Spec) → IsUtf8 text → spec_in text ≡ Ok s → IsSpec text s
read_is_spec text s utf8 e = by_cfg text s (after_prefix (codes "cfg(") text) utf8 refl e

abbrev read_spec : Spec → Read
read_spec s = Ok s

-- What parsing answers, in the words of the grammar.
pub answers_spec : (text : List ℕ) (found : Result TargetSpec TargetSpecError) → IsUtf8 text
    → IfOk found (λ spec. spec_in text ≡ Ok (spec_view spec)) → IfOk found (λ spec. IsSpec text (spec_view spec))
answers_spec text (Ok spec) utf8 is = read_is_spec text (spec_view spec) utf8 is
answers_spec text (Err error) utf8 is = tt

pub answers_none : (text : List ℕ) (found : Result TargetSpec TargetSpecError) → IsUtf8 text
    → IfErr found (λ error. IfRefused error (λ fault. spec_in text ≡ Err fault))
    → IfErr found (λ error. IfRefused error (λ fault. (s : Spec) → IsSpec text s → ⊥))
answers_none text (Ok spec) utf8 is = tt
answers_none text (Err Memory) utf8 is = tt
answers_none text (Err (Refused fault)) utf8 is =
    λ s writes. (let clash : read_spec s ≡ Err fault = sym (spec_is_read text s utf8 writes) ∙ is in cc)

-- A text writes one spec at most.
pub one_spec : (text : List ℕ) → IsUtf8 text → (s t : Spec) → IsSpec text s → IsSpec text t → s ≡ t
one_spec text utf8 s t x y =
    let same : read_spec s ≡ Ok t = sym (spec_is_read text s utf8 x) ∙ spec_is_read text t utf8 y in cc
