-- Which names are in a list.
use Rattle.std.proofs.Common.{◌≡◌, ◌⊎◌, inl, inr, List, [], ◌∷◌, ◌++◌, true, false, refl, sym, ap, ◌∙◌, subst}
use Rattle.std.specs.List.{AllByRecursion, IsDistinct}
use Rattle.std.specs.Set.{is_member}
use Rattle.std.specs.Str.{bytes_eq}
use Rattle.std.proofs.lemmas.Bool.{cases_Bool, or_cases, or_left, or_right, false_from_ne_true}
use Rattle.std.proofs.lemmas.Cmp.{nat_list_eq_equiv}
use Rattle.std.proofs.lemmas.Map.Keys.{IsDistinct-head, IsDistinct-tail, IsDistinct-cons}
use Rattle.std.proofs.lemmas.Slice.Eq.{bytes_eq-Decides}
use Rattle.nextest_inheritance.specs.Names.{Name}

-- an element of a list
pub data In {X : Type 0} (x : X) : List X → Type 0 where
  here : {xs : List X} → In x (x ∷ xs)
  there : {y : X} {xs : List X} → In x xs → In x (y ∷ xs)

pub here_at : {X : Type 0} (x y : X) (xs : List X) → x ≡ y → In x (y ∷ xs)
here_at {X} x y xs same = let P : X → Type 0 = λ z. In x (z ∷ xs) in subst P same here

-- the front and the back of a list at an element
pub record Split {X : Type 0} (x : X) (xs : List X) : Type 0 where
  pub front : List X
  pub back : List X
  pub is : xs ≡ front ++ x ∷ back

pub split_at : {X : Type 0} (x : X) (xs : List X) → In x xs → Split x xs
split_at x l (here {xs = xs}) = record { front = []; back = xs; is = refl }
split_at x l (there {y = y} {xs = xs} i) =
    let s = split_at x xs i in
    record { front = y ∷ s.front; back = s.back; is = ap (λ l. y ∷ l) s.is }

pub in_front : {X : Type 0} (x : X) (xs ys : List X) → In x xs → In x (xs ++ ys)
in_front x l ys here = here
in_front x l ys (there {xs = xs} i) = there (in_front x xs ys i)

pub in_back : {X : Type 0} (x : X) (xs ys : List X) → In x ys → In x (xs ++ ys)
in_back x [] ys i = i
in_back x (y ∷ xs) ys i = there (in_back x xs ys i)

pub in_either : {X : Type 0} (x : X) (xs ys : List X) → In x (xs ++ ys) → In x xs ⊎ In x ys
in_either x [] ys i = inr i
in_either x (y ∷ xs) ys here = inl here
in_either x (y ∷ xs) ys (there i) =
    elim (in_either x xs ys i) [ inl j ↦ inl (there j) | inr j ↦ inr j ]

-- a fact of each element, one by one
pub all_at : {X : Type 0} (P : X → Type 0) (x : X) (xs : List X) → AllByRecursion P xs → In x xs → P x
all_at P x l all here = all.0
all_at P x l all (there {xs = xs} i) = all_at P x xs all.1 i

pub all_from : {X : Type 0} (P : X → Type 0) (xs : List X) → ((x : X) → In x xs → P x) → AllByRecursion P xs
all_from P [] each = tt
all_from P (x ∷ xs) each = (each x here, all_from P xs (λ y i. each y (there i)))

-- two names are the same or not
pub same_name : (x y : Name) → (x ≡ y) ⊎ (x ≡ y → ⊥)
same_name x y =
    elim (cases_Bool (bytes_eq x y)) [
      | inl same ↦ inl ((bytes_eq-Decides x y).0 same)
      | inr other ↦ inr (λ same. elim_differ x y other ((bytes_eq-Decides x y).1 same))
    ]
  where
    elim_differ : (x y : Name) → bytes_eq x y ≡ false → bytes_eq x y ≡ true → ⊥
    elim_differ x y other same = let bad : true ≡ false = sym same ∙ other in cc

-- a name is in a list or not
pub in_or_not : (x : Name) (xs : List Name) → In x xs ⊎ (In x xs → ⊥)
in_or_not x [] = inr (λ i. elim i [ ])
in_or_not x (y ∷ xs) =
    elim (same_name x y) [
      | inl same ↦ inl (here_at x y xs same)
      | inr other ↦ elim (in_or_not x xs) [ inl i ↦ inl (there i) | inr out ↦ inr (nowhere x y xs other out) ]
    ]
  where
    nowhere : (x y : Name) (xs : List Name) → (x ≡ y → ⊥) → (In x xs → ⊥) → In x (y ∷ xs) → ⊥
    nowhere x y xs other out here = other refl
    nowhere x y xs other out (there i) = out i

-- the test of membership
pub in_member : (x : Name) (xs : List Name) → is_member bytes_eq xs x ≡ true → In x xs
in_member x [] is = cc
in_member x (y ∷ xs) is =
    elim (or_cases (bytes_eq x y) (is_member bytes_eq xs x) is) [
      | inl same ↦ here_at x y xs ((bytes_eq-Decides x y).0 same)
      | inr later ↦ there (in_member x xs later)
    ]

pub member_in : (x : Name) (xs : List Name) → In x xs → is_member bytes_eq xs x ≡ true
member_in x l here = or_left _ _ (nat_list_eq_equiv.refl x)
member_in x l (there {y = y} {xs = xs} i) = or_right (bytes_eq x y) _ (member_in x xs i)

-- names of which none comes twice
pub distinct_head : (x : Name) (xs : List Name) → IsDistinct bytes_eq (x ∷ xs) → In x xs → ⊥
distinct_head x xs distinct i =
    let other : bytes_eq x x ≡ false =
    all_at (λ y. bytes_eq x y ≡ false) x xs (IsDistinct-head bytes_eq x xs distinct) i in
    let bad : true ≡ false = sym (nat_list_eq_equiv.refl x) ∙ other in cc

pub distinct_tail : (x : Name) (xs : List Name) → IsDistinct bytes_eq (x ∷ xs) → IsDistinct bytes_eq xs
distinct_tail x xs distinct = IsDistinct-tail bytes_eq x xs distinct

pub distinct_cons : (x : Name) (xs : List Name) → (In x xs → ⊥) → IsDistinct bytes_eq xs → IsDistinct bytes_eq (x ∷ xs)
distinct_cons x xs out distinct =
    IsDistinct-cons bytes_eq x xs (all_from (λ y. bytes_eq x y ≡ false) xs (λ y i. differ y i)) distinct
  where
    differ : (y : Name) → In y xs → bytes_eq x y ≡ false
    differ y i = false_from_ne_true (bytes_eq x y)
        (λ same. out (let P : Name → Type 0 = λ z. In z xs in subst P (sym ((bytes_eq-Decides x y).0 same)) i))
