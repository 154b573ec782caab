-- Texts cut at the first of some stops.
use Rattle.std.proofs.Common.{◌≡◌, ◌≤◌, ◌<◌, ◌==◌, ◌||◌, ◌&&◌, nat_lt, ℕ, suc, Bool, true, false, List, [], ◌∷◌, ◌++◌, Option, None, Some, length, take, drop, get_or, MatchOption, refl, sym, ◌∙◌, ap, arith, inl, inr}
use Rattle.std.proofs.lemmas.Bool.Decides.{eqb_tells, Decides-ltb}
use Rattle.std.proofs.lemmas.List.{take-append-drop}
use Rattle.std.proofs.lemmas.Str.{NoCharPasses-byte}
use Rattle.std.proofs.lemmas.Str.Pattern.{drop_at_char}
use Rattle.std.specs.Char.{char_set_contains}
use Rattle.std.specs.Str.{NoCharPasses, IsCharBoundary}
use Rattle.std.specs.Str.Pattern.{FindsBy}
use Rattle.filter_language.specs.Texts.{front_until, rest_until, are_ascii}

-- A stop is an ASCII character.
first_low : (d c : ℕ) (stops : List ℕ) (a : Bool) → nat_lt d 128 ≡ a → (b : Bool) → (d == c) ≡ b
    → (are_ascii stops ≡ true → char_set_contains stops c ≡ true → c < 128)
    → (a && are_ascii stops) ≡ true → (b || char_set_contains stops c) ≡ true → c < 128
first_low d c stops true fits true same known low is =
    elim (eqb_tells d c) [
      | inl e ↦ (let at : d ≡ c = e.1 in let below = (Decides-ltb d 128).0 fits in omega (arith, at, below))
      | inr other ↦ absurd (let clash : true ≡ false = sym same ∙ other.0 in cc)
    ]
first_low d c stops true fits false same known low is = known low is
first_low d c stops false fits b same known low is = absurd (cc)

stop_low : (stops : List ℕ) (c : ℕ) → are_ascii stops ≡ true → char_set_contains stops c ≡ true → c < 128
stop_low [] c low is = absurd (cc)
stop_low (d ∷ stops) c low is = first_low d c stops (nat_lt d 128) refl (d == c) refl (stop_low stops c) low is

-- No byte of a text is a stop.
abbrev AreFree : List ℕ → List ℕ → Type 0
AreFree stops text = (i : ℕ) → i < length text → char_set_contains stops (get_or text i 0) ≡ false

further : (stops : List ℕ) (c : ℕ) (text : List ℕ) → AreFree stops (c ∷ text) → AreFree stops text
further stops c text free i below = free (suc i) (omega (arith, below))

front_of_free : (stops text rest : List ℕ) (stop : ℕ) → AreFree stops text
    → char_set_contains stops stop ≡ true → front_until stops (text ++ (stop ∷ rest)) ≡ text
front_of_free stops [] rest stop free is = rw is refl
front_of_free stops (c ∷ text) rest stop free is =
    rw (free 0 (omega arith)) (ap (λ l. c ∷ l) (front_of_free stops text rest stop (further stops c text free) is))

rest_of_free : (stops text rest : List ℕ) (stop : ℕ) → AreFree stops text
    → char_set_contains stops stop ≡ true → rest_until stops (text ++ (stop ∷ rest)) ≡ stop ∷ rest
rest_of_free stops [] rest stop free is = rw is refl
rest_of_free stops (c ∷ text) rest stop free is =
    rw (free 0 (omega arith)) (rest_of_free stops text rest stop (further stops c text free) is)

whole_front : (stops text : List ℕ) → AreFree stops text → front_until stops text ≡ text
whole_front stops [] free = refl
whole_front stops (c ∷ text) free =
    rw (free 0 (omega arith)) (ap (λ l. c ∷ l) (whole_front stops text (further stops c text free)))

no_rest : (stops text : List ℕ) → AreFree stops text → rest_until stops text ≡ []
no_rest stops [] free = refl
no_rest stops (c ∷ text) free = rw (free 0 (omega arith)) (no_rest stops text (further stops c text free))

-- A text none of whose characters is a stop.
are_free : (stops text : List ℕ) → are_ascii stops ≡ true → NoCharPasses (char_set_contains stops) text
    → AreFree stops text
are_free stops text low none i below = by_test (char_set_contains stops (get_or text i 0)) refl
  where
    by_test : (b : Bool) → char_set_contains stops (get_or text i 0) ≡ b → b ≡ false
    by_test false is = refl
    by_test true is = absurd (let clash : true ≡ false =
        sym is ∙ NoCharPasses-byte (char_set_contains stops) text i none below
        (stop_low stops (get_or text i 0) low is) in cc)

-- What `find` is reported to give at some stops.
abbrev pub Finds : List ℕ → List ℕ → Option (ℕ × ℕ) → Type 0
Finds stops text r = (k : ℕ → Bool) → ((c : ℕ) → char_set_contains stops c ≡ k c) → FindsBy k text r

-- The place of the first stop cuts a text into its front and its rest.
pub place_is : (stops text : List ℕ) (found : Option ℕ) → are_ascii stops ≡ true
    → MatchOption found (Finds stops text None)
    (λ i. (j : ℕ) × Finds stops text (Some (i, j)) × (i ≤ j) × IsCharBoundary text i × IsCharBoundary text j)
    → MatchOption found ((front_until stops text ≡ text) × (rest_until stops text ≡ []))
    (λ i. (front_until stops text ≡ take i text) × (rest_until stops text ≡ drop i text) × IsCharBoundary text i)
place_is stops text None low h =
    let free = are_free stops text low (h (char_set_contains stops) (λ c. refl)) in
    (whole_front stops text free, no_rest stops text free)
place_is stops text (Some i) low h =
    let it = h.1 (char_set_contains stops) (λ c. refl) in
    let c = it.1.0 in
    let free = are_free stops (take i text) low it.0 in
    let cut : drop i text ≡ c ∷ drop h.0 text = drop_at_char c text i h.0 it.1.2 (stop_low stops c low it.1.1) in
    let whole : text ≡ take i text ++ (c ∷ drop h.0 text) =
    sym (take-append-drop i text) ∙ ap (λ l. take i text ++ l) cut in (
      ap (front_until stops) whole ∙ front_of_free stops (take i text) (drop h.0 text) c free it.1.1,
      ap (rest_until stops) whole ∙ rest_of_free stops (take i text) (drop h.0 text) c free it.1.1 ∙ sym cut,
      h.3,
    )
