-- Facts of lists, element by element.
use Rattle.std.proofs.Common.{◌≡◌, ◌⊎◌, inl, inr, ◌∙◌, ℕ, zero, suc, ◌<◌, Bool, true, false, List, [], ◌∷◌, ◌++◌, map, Contains, slice_get, zip, Some, Less, nat_cmp, refl, sym, ap, subst, arith}
use Rattle.std.proofs.lemmas.Bool.{cases_order}
use Rattle.std.proofs.lemmas.Cmp.{ranked}
use Rattle.std.proofs.lemmas.List.Elements.{All-from_recursion, All-contains, Contains-append_cases, Contains-append_left, Contains-append_right}
use Rattle.std.proofs.lemmas.Option.{slice_get-get_or}
use Rattle.std.specs.List.{AllByRecursion, AllZip}
use Rattle.std.specs.List.Sorted.{IsStrictlySortedBy}
use Rattle.std.specs.Ordering.{flip_args}

-- ---- elements

-- what a list contains has the fact that each element has
pub all_contains : {X : Type 0} (P : X → Type 0) (xs : List X) (x : X) → AllByRecursion P xs → Contains xs x → P x
all_contains P xs x all has = All-contains P xs x (All-from_recursion P xs all) has

-- what a list contains is at a place
pub place_of : {X : Type 0} (xs : List X) (x : X) → Contains xs x → (n : ℕ) × (slice_get xs n ≡ Some x)
place_of xs x has = (has.0, slice_get-get_or xs has.0 x has.1 ∙ ap Some has.2)

-- what is at a place is contained
pub contains_at : {X : Type 0} (xs : List X) (n : ℕ) (x : X) → slice_get xs n ≡ Some x → Contains xs x
contains_at [] n x is = absurd cc
contains_at (y ∷ xs) zero x is =
    let same : y ≡ x = cc in
    Contains-append_left (y ∷ []) xs x (0, omega arith, same)
contains_at (y ∷ xs) (suc n) x is = Contains-append_right (y ∷ []) xs x (contains_at xs n x is)

none_in_nil : {X : Type 0} (x : X) → Contains [] x → ⊥
none_in_nil x has = absurd (omega (arith, has.1))

-- the one element of a list
alone : {X : Type 0} (x y : X) → Contains (x ∷ []) y → x ≡ y
alone x y (zero, within, is) = is
alone x y (suc n, within, is) = absurd (omega (arith, within))

-- an element is the first one or one of the others
pub first_or_other : {X : Type 0} (x y : X) (xs : List X) → Contains (x ∷ xs) y → (x ≡ y) ⊎ Contains xs y
first_or_other x y xs has = elim (Contains-append_cases (x ∷ []) xs y has) [ inl h ↦ inl (alone x y h) | inr h ↦ inr h ]

-- ---- lists that descend

abbrev Above : ℕ → ℕ → Type 0
Above n m = flip_args nat_cmp n m ≡ Less

above_below : (n m : ℕ) → Above n m → m < n
above_below n m is = ranked m n Less (sym is)

-- an element that is before all of a list is not one of them
not_above : (x : ℕ) (xs : List ℕ) → AllByRecursion (Above x) xs → Contains xs x → ⊥
not_above x xs all has = let lower = above_below x x (all_contains (Above x) xs x all has) in absurd (omega (arith, lower))

same_first : (x y : ℕ) (xs ys : List ℕ) → AllByRecursion (Above x) xs → AllByRecursion (Above y) ys
    → (x ≡ y) ⊎ Contains xs y → (y ≡ x) ⊎ Contains ys x → x ≡ y
same_first x y xs ys one two (inl e) h = e
same_first x y xs ys one two (inr e) (inl h) = sym h
same_first x y xs ys one two (inr e) (inr h) =
    let low = above_below x y (all_contains (Above x) xs y one e) in
    let high = above_below y x (all_contains (Above y) ys x two h) in
    absurd (omega (arith, low, high))

other : (x y n : ℕ) (xs ys : List ℕ) → x ≡ y → AllByRecursion (Above x) xs
    → ((m : ℕ) → Contains (x ∷ xs) m → Contains (y ∷ ys) m) → Contains xs n → Contains ys n
other x y n xs ys same one into has =
    elim (first_or_other y n ys (into n (Contains-append_right (x ∷ []) xs n has))) [
      | inl e ↦ absurd (not_above x xs one (subst (Contains xs) (sym (same ∙ e)) has))
      | inr h ↦ h
    ]

-- descending lists with the same elements are the same
pub same_descending : (xs ys : List ℕ) → IsStrictlySortedBy (flip_args nat_cmp) xs
    → IsStrictlySortedBy (flip_args nat_cmp) ys → ((n : ℕ) → Contains xs n → Contains ys n)
    → ((n : ℕ) → Contains ys n → Contains xs n) → xs ≡ ys
unfolding IsStrictlySortedBy
same_descending [] [] one two into back = refl
same_descending [] (y ∷ ys) one two into back =
    absurd (none_in_nil y (back y (Contains-append_left (y ∷ []) ys y (0, omega arith, refl))))
same_descending (x ∷ xs) [] one two into back =
    absurd (none_in_nil x (into x (Contains-append_left (x ∷ []) xs x (0, omega arith, refl))))
same_descending (x ∷ xs) (y ∷ ys) one two into back =
    let same : x ≡ y =
    same_first x y xs ys one.0 two.0
    (first_or_other x y xs (back y (Contains-append_left (y ∷ []) ys y (0, omega arith, refl))))
    (first_or_other y x ys (into x (Contains-append_left (x ∷ []) xs x (0, omega arith, refl)))) in
    let rest : xs ≡ ys =
    same_descending xs ys one.1 two.1 (λ n. other x y n xs ys same one.0 into)
    (λ n. other y x n ys xs (sym same) two.0 back) in
    λ i. same i ∷ rest i

-- ---- lists beside each other

module _ {A B C : Type 0} (R : A → B → Type 0) (S : A → C → Type 0) where
  -- what is beside the same is related
  pub beside_same : (T : B → C → Type 0) → ((a : A) (b : B) (c : C) → R a b → S a c → T b c)
      → (ps : List A) (qs : List B) (rs : List C) → AllZip R ps qs → AllZip S ps rs → AllZip T qs rs
  beside_same T turn [] [] [] one two = tt
  beside_same T turn [] [] (c ∷ rs) one two = absurd two
  beside_same T turn [] (b ∷ qs) rs one two = absurd one
  beside_same T turn (a ∷ ps) [] rs one two = absurd one
  beside_same T turn (a ∷ ps) (b ∷ qs) [] one two = absurd two
  beside_same T turn (a ∷ ps) (b ∷ qs) (c ∷ rs) one two =
      (turn a b c one.0 two.0, beside_same T turn ps qs rs one.1 two.1)

  -- and shown alike, if each is
  pub seen_alike : {D : Type 0} (f : B → D) (g : C → D) → ((a : A) (b : B) (c : C) → R a b → S a c → f b ≡ g c)
      → (ps : List A) (qs : List B) (rs : List C) → AllZip R ps qs → AllZip S ps rs → map f qs ≡ map g rs
  seen_alike f g turn [] [] [] one two = refl
  seen_alike f g turn [] [] (c ∷ rs) one two = absurd two
  seen_alike f g turn [] (b ∷ qs) rs one two = absurd one
  seen_alike f g turn (a ∷ ps) [] rs one two = absurd one
  seen_alike f g turn (a ∷ ps) (b ∷ qs) [] one two = absurd two
  seen_alike f g turn (a ∷ ps) (b ∷ qs) (c ∷ rs) one two =
      λ i. turn a b c one.0 two.0 i ∷ seen_alike f g turn ps qs rs one.1 two.1 i

module _ {A B : Type 0} (R : A → B → Type 0) where
  -- what is on the right has something on its left
  pub left_of : (ps : List A) (qs : List B) (n : ℕ) (b : B) → AllZip R ps qs → slice_get qs n ≡ Some b
      → (a : A) × (slice_get ps n ≡ Some a) × R a b
  left_of [] [] n b all is = absurd cc
  left_of [] (y ∷ qs) n b all is = absurd all
  left_of (x ∷ ps) [] n b all is = absurd all
  left_of (x ∷ ps) (y ∷ qs) zero b all is =
      let same : y ≡ b = cc in (x, refl, subst (R x) same all.0)
  left_of (x ∷ ps) (y ∷ qs) (suc n) b all is = left_of ps qs n b all.1 is

  -- what is on the left has something on its right
  pub right_of : (ps : List A) (qs : List B) (n : ℕ) (a : A) → AllZip R ps qs → slice_get ps n ≡ Some a
      → (b : B) × (slice_get qs n ≡ Some b) × R a b
  right_of [] [] n a all is = absurd cc
  right_of [] (y ∷ qs) n a all is = absurd all
  right_of (x ∷ ps) [] n a all is = absurd all
  right_of (x ∷ ps) (y ∷ qs) zero a all is =
      let same : x ≡ a = cc in (y, refl, subst (λ z. R z y) same all.0)
  right_of (x ∷ ps) (y ∷ qs) (suc n) a all is = right_of ps qs n a all.1 is

-- ---- pairs

pub pair_at : {A B : Type 0} (ps : List A) (qs : List B) (n : ℕ) (p : A × B) → slice_get (zip ps qs) n ≡ Some p
    → (slice_get ps n ≡ Some p.0) × (slice_get qs n ≡ Some p.1)
pair_at [] qs n p is = absurd cc
pair_at (a ∷ ps) [] n p is = absurd cc
pair_at {A} {B} (a ∷ ps) (b ∷ qs) zero p is =
    let pair : A × B = (a, b) in
    let same : pair ≡ p = cc in
    (ap (λ (q : A × B). Some q.0) same, ap (λ (q : A × B). Some q.1) same)
pair_at (a ∷ ps) (b ∷ qs) (suc n) p is = pair_at ps qs n p is

pub pair_from : {A B : Type 0} (ps : List A) (qs : List B) (n : ℕ) (a : A) (b : B) → slice_get ps n ≡ Some a
    → slice_get qs n ≡ Some b → slice_get (zip ps qs) n ≡ Some (a, b)
pair_from [] qs n a b one two = absurd cc
pair_from (x ∷ ps) [] n a b one two = absurd cc
pair_from (x ∷ ps) (y ∷ qs) zero a b one two =
    let left : x ≡ a = cc in
    let right : y ≡ b = cc in
    λ i. Some (left i, right i)
pair_from (x ∷ ps) (y ∷ qs) (suc n) a b one two = pair_from ps qs n a b one two

-- ---- the first of some

-- one that fails for all is none of some
pub among : {X : Type 0} (P : X → Type 0) (x : X) (front back : List X) → AllByRecursion (λ y. P y → ⊥) (front ++ x ∷ back)
    → P x → ⊥
among P x [] back none is = none.0 is
among P x (y ∷ front) back none is = among P x front back none.1 is

-- the first that passes is one
pub one_first : {X : Type 0} (P : X → Type 0) (x y : X) (front back before after : List X)
    → AllByRecursion (λ z. P z → ⊥) front → P x → AllByRecursion (λ z. P z → ⊥) before → P y
    → front ++ x ∷ back ≡ before ++ y ∷ after → x ≡ y
one_first P x y [] back [] after none is never has same = cc
one_first P x y [] back (z ∷ before) after none is never has same =
    let first : x ≡ z = cc in absurd (never.0 (subst P first is))
one_first P x y (z ∷ front) back [] after none is never has same =
    let first : z ≡ y = cc in absurd (none.0 (subst P (sym first) has))
one_first P x y (z ∷ front) back (w ∷ before) after none is never has same =
    let rest : front ++ x ∷ back ≡ before ++ y ∷ after = cc in
    one_first P x y front back before after none.1 is never.1 has rest

-- ---- the least and the greatest number

-- two least numbers that pass are one
pub one_least : (f g : ℕ → Bool) → ((n : ℕ) → f n ≡ g n) → (a b : ℕ) → f a ≡ true
    → ((n : ℕ) → n < a → f n ≡ false) → g b ≡ true → ((n : ℕ) → n < b → g n ≡ false) → a ≡ b
one_least f g same a b is lower has below = elim (cases_order a b) [
  | inl e ↦ e
  | inr (inl e) ↦ let no = below a e in let yes = sym (same a) ∙ is in absurd cc
  | inr (inr e) ↦ let no = lower b e in let yes = same b ∙ has in absurd cc
]

-- two numbers below a bound that pass, where none passes from them to the bound, are one
pub one_greatest : (P : ℕ → Type 0) (bound a b : ℕ) → a < bound → b < bound → P a → P b
    → ((n : ℕ) → a < n → n < bound → P n → ⊥) → ((n : ℕ) → b < n → n < bound → P n → ⊥) → a ≡ b
one_greatest P bound a b low high is has above over = elim (cases_order a b) [
  | inl e ↦ e
  | inr (inl e) ↦ absurd (above b e high has)
  | inr (inr e) ↦ absurd (over a e low is)
]
