-- A platform has a line exactly if it is among its lines.
use Rattle.std.proofs.Common.{◌≡◌, ℕ, inl, inr, Bool, true, false, ◌||◌, ◌&&◌, List, [], ◌∷◌, Option, None, Some, bytes_eq, Contains, refl, sym, ◌∙◌, ap, subst, arith}
use Rattle.std.specs.List.{list_any}
use Rattle.std.specs.Cmp.Lexicographic.{same_text}
use Rattle.std.proofs.lemmas.Slice.Eq.{bytes_eq-Decides}
use Rattle.std.proofs.lemmas.List.Elements.{Contains-append_right, Contains-append_cases, Contains-push_cases}
use Rattle.platform_language.specs.Platforms.Platforms.{Line}
use Rattle.platform_language.specs.Values.{same_value, same_line}
use Rattle.platform_language.specs.Laws.{LinesAreAmong}

first : (a b : Bool) → (a && b) ≡ true → a ≡ true
first true b e = refl
first false b e = e

second : (a b : Bool) → (a && b) ≡ true → b ≡ true
second true b e = e
second false b e = absurd (cc)

same_bytes : (xs ys : List ℕ) → bytes_eq xs ys ≡ true → xs ≡ ys
same_bytes xs ys e = same_text _ _ (sym e)

own_bytes : (xs : List ℕ) → bytes_eq xs xs ≡ true
own_bytes xs = (bytes_eq-Decides xs xs).1 refl

same_values : (a b : Option (List ℕ)) → same_value a b ≡ true → a ≡ b
same_values None None e = refl
same_values (Some a) (Some b) e = ap Some (same_bytes a b e)
same_values None (Some b) e = absurd (cc)
same_values (Some a) None e = absurd (cc)

own_value : (a : Option (List ℕ)) → same_value a a ≡ true
own_value None = refl
own_value (Some a) = own_bytes a

lines_same : (a b : Line) → a.key ≡ b.key → a.value ≡ b.value → a ≡ b
lines_same a b x y =
    let by_key : List ℕ → Line = λ k. record { key = k; value = a.value } in
    let by_value : Option (List ℕ) → Line = λ v. record { key = b.key; value = v } in
    ap by_key x ∙ ap by_value y

same_lines : (a b : Line) → same_line a b ≡ true → a ≡ b
same_lines a b e =
    lines_same a b (same_bytes a.key b.key (first (bytes_eq a.key b.key) (same_value a.value b.value) e))
    (same_values a.value b.value (second (bytes_eq a.key b.key) (same_value a.value b.value) e))

own_line : (a : Line) → same_line a a ≡ true
own_line a = rw (own_bytes a.key) (own_value a.value)

or_right : (a : Bool) → (a || true) ≡ true
or_right true = refl
or_right false = refl

abbrev found : Line → List Line → Bool
found line lines = list_any (λ it. same_line it line) lines

here : (it line : Line) (lines : List Line) → it ≡ line → Contains (it ∷ lines) line
here it line lines same = subst (λ x. Contains (it ∷ lines) x) same (0, omega arith, refl)

by_first : (it line : Line) (lines : List Line) (b : Bool) → same_line it line ≡ b
    → (found line lines ≡ true → Contains lines line) → (b || found line lines) ≡ true → Contains (it ∷ lines) line
by_first it line lines true is known _ = here it line lines (same_lines it line is)
by_first it line lines false is known e = Contains-append_right (it ∷ []) lines line (known e)

among : (line : Line) (lines : List Line) → found line lines ≡ true → Contains lines line
among line [] e = absurd (cc)
among line (it ∷ lines) e = by_first it line lines (same_line it line) refl (among line lines) e

nothing_there : (line : Line) → Contains [] line → ⊥
nothing_there line (k, below, is) = omega (arith, below)

is_found : (line : Line) (lines : List Line) → Contains lines line → found line lines ≡ true
is_found line [] there = absurd (nothing_there line there)
is_found line (it ∷ lines) there =
    elim (Contains-append_cases (it ∷ []) lines line there) [
      | inl one ↦ elim (Contains-push_cases [] it line one) [
        | inl none ↦ absurd (nothing_there line none)
        | inr same ↦ ap (λ b. b || found line lines) (ap (λ x. same_line it x) (sym same) ∙ own_line it)
      ]
      | inr later ↦ ap (λ b. same_line it line || b) (is_found line lines later) ∙ or_right (same_line it line)
    ]

pub lines_are_among : LinesAreAmong
lines_are_among platform line = (among line platform.lines, is_found line platform.lines)
