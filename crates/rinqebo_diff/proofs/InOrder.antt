-- Lists in order that have the same elements.
use Rattle.std.proofs.Common.{◌≡◌, ◌∙◌, ◌⊎◌, inl, inr, ℕ, ◌<◌, Less, List, [], ◌∷◌, Ordering, Contains, nat_cmp, refl, sym, subst, arith}
use Rattle.std.specs.List.{AllByRecursion}
use Rattle.std.specs.List.Sorted.{IsStrictlySortedBy}
use Rattle.std.specs.Ordering.{flip_args}
use Rattle.std.proofs.lemmas.Cmp.{ranked}
use Rattle.std.proofs.lemmas.List.Elements.{All-contains, All-from_recursion}
use Rattle.rinqebo_diff.proofs.TurnedTests.{first_one, first_or_other, later_one}

pub all_contains : {X : Type 0} (P : X → Type 0) (xs : List X) (x : X) → AllByRecursion P xs → Contains xs x → P x
all_contains P xs x all has = All-contains P xs x (All-from_recursion P xs all) has

module _ {X : Type 0} (cmp : X → X → Ordering) (apart : (x y : X) → cmp x y ≡ Less → cmp y x ≡ Less → ⊥) where
  abbrev IsBefore : X → X → Type 0
  IsBefore x y = cmp x y ≡ Less

  -- an element that is before all others is not one of them
  not_before : (x : X) (xs : List X) → AllByRecursion (IsBefore x) xs → Contains xs x → ⊥
  not_before x xs all has = let is = all_contains (IsBefore x) xs x all has in apart x x is is

  same_first : (x y : X) (xs ys : List X) → AllByRecursion (IsBefore x) xs → AllByRecursion (IsBefore y) ys
      → (x ≡ y) ⊎ Contains xs y → (y ≡ x) ⊎ Contains ys x → x ≡ y
  same_first x y xs ys one two (inl e) h = e
  same_first x y xs ys one two (inr e) (inl h) = sym h
  same_first x y xs ys one two (inr e) (inr h) =
      absurd (apart x y (all_contains (IsBefore x) xs y one e) (all_contains (IsBefore y) ys x two h))

  in_rest : (x y z : X) (xs ys : List X) → x ≡ y → AllByRecursion (IsBefore x) xs
      → ((w : X) → Contains (x ∷ xs) w → Contains (y ∷ ys) w) → Contains xs z → Contains ys z
  in_rest x y z xs ys same one into has = elim (first_or_other y z ys (into z (later_one x z xs has))) [
    | inl e ↦ absurd (not_before x xs one (subst (Contains xs) (sym (same ∙ e)) has))
    | inr h ↦ h
  ]

  -- ordered lists with the same elements are the same
  pub same_sorted : (xs ys : List X) → IsStrictlySortedBy cmp xs → IsStrictlySortedBy cmp ys
      → ((x : X) → Contains xs x → Contains ys x) → ((x : X) → Contains ys x → Contains xs x) → xs ≡ ys
  unfolding IsStrictlySortedBy
  same_sorted [] [] one two into back = refl
  same_sorted [] (y ∷ ys) one two into back = absurd (omega (arith, (back y (first_one y y ys refl)).1))
  same_sorted (x ∷ xs) [] one two into back = absurd (omega (arith, (into x (first_one x x xs refl)).1))
  same_sorted (x ∷ xs) (y ∷ ys) one two into back =
      let same : x ≡ y =
      same_first x y xs ys one.0 two.0 (first_or_other x y xs (back y (first_one y y ys refl)))
      (first_or_other y x ys (into x (first_one x x xs refl))) in
      let rest : xs ≡ ys =
      same_sorted xs ys one.1 two.1 (λ z. in_rest x y z xs ys same one.0 into)
      (λ z. in_rest y x z ys xs (sym same) two.0 back) in
      λ i. same i ∷ rest i

numbers_apart : (x y : ℕ) → flip_args nat_cmp x y ≡ Less → flip_args nat_cmp y x ≡ Less → ⊥
numbers_apart x y one two =
    let low : y < x = ranked y x Less (sym one) in
    let high : x < y = ranked x y Less (sym two) in
    absurd (omega (arith, low, high))

-- descending numbers that are the same are in the same list
pub same_descending : (xs ys : List ℕ) → IsStrictlySortedBy (flip_args nat_cmp) xs
    → IsStrictlySortedBy (flip_args nat_cmp) ys → ((n : ℕ) → Contains xs n → Contains ys n)
    → ((n : ℕ) → Contains ys n → Contains xs n) → xs ≡ ys
same_descending xs ys one two into back = same_sorted (flip_args nat_cmp) numbers_apart xs ys one two into back
