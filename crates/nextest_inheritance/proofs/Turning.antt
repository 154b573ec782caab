-- A way that comes back to its first name, written from its least name.
use Rattle.std.proofs.Common.{◌≡◌, ◌⊎◌, inl, inr, List, [], ◌∷◌, ◌++◌, true, Ordering, Less, Equal, Greater, refl, sym, ap, ◌∙◌, subst, nat_cmp}
use Rattle.std.specs.Cmp.Lexicographic.{slice_cmp}
use Rattle.std.specs.List.{AllByRecursion, IsDistinct}
use Rattle.std.specs.Ordering.{ordering_reverse, is_lt}
use Rattle.std.specs.Str.{bytes_eq}
use Rattle.std.proofs.lemmas.Cmp.{nat_list_cmp_total, nat_list_eq_equiv, tied_itself}
use Rattle.std.proofs.lemmas.List.Sorted.{IsPermutation-append_comm}
use Rattle.std.proofs.lemmas.Map.Keys.{IsDistinct-IsPermutation}
use Rattle.std.proofs.lemmas.Map.Lookups.{exact_bytes}
use Rattle.nextest_inheritance.specs.Names.{Name, precedes}
use Rattle.nextest_inheritance.specs.Parents.{Parents}
use Rattle.nextest_inheritance.specs.Cycles.{first_or, LeadTo}
use Rattle.nextest_inheritance.proofs.Members.{In, here, there, in_front, in_back, in_either, all_from, distinct_head}
use Rattle.nextest_inheritance.proofs.Trails.{IsRing, first_or-append, lead_front, lead_back, lead_append}

-- one name is another, or above it
abbrev pub IsFrom : Name → Name → Type 0
IsFrom least name = (name ≡ least) ⊎ (precedes least name ≡ true)

below_from : (x y : Name) → slice_cmp nat_cmp x y ≡ Less → precedes x y ≡ true
below_from x y less = ap is_lt less

less_from : (o : Ordering) → is_lt o ≡ true → o ≡ Less
less_from Less is = refl
less_from Equal is = cc
less_from Greater is = cc

-- a name that is below another is not that one
pub below_other : (x y : Name) → precedes x y ≡ true → x ≡ y → ⊥
below_other x y below same =
    let less : slice_cmp nat_cmp x y ≡ Less = less_from _ below in
    let tied : slice_cmp nat_cmp x y ≡ Equal = rw same (tied_itself nat_list_cmp_total y) in
    let bad : Less ≡ Equal = sym less ∙ tied in cc

pub below_below : (x y z : Name) → precedes x y ≡ true → precedes y z ≡ true → precedes x z ≡ true
below_below x y z one other = below_from x z (nat_list_cmp_total.trans x y z (less_from _ one) (less_from _ other))

from_from : (x y z : Name) → precedes x y ≡ true → IsFrom y z → IsFrom x z
from_from x y z below (inl same) = inr (rw same below)
from_from x y z below (inr above) = inr (below_below x y z below above)

-- of two names one is below the other, or they are the same
pub one_below : (x y : Name) (o : Ordering) → slice_cmp nat_cmp x y ≡ o
    → (precedes x y ≡ true) ⊎ ((x ≡ y) ⊎ (precedes y x ≡ true))
one_below x y Less is = inl (below_from x y is)
one_below x y Equal is = inr (inl (exact_bytes x y is))
one_below x y Greater is = inr (inr (below_from y x (nat_list_cmp_total.antisymm y x ∙ ap ordering_reverse is)))

-- the least name of a list
pub record Least (names : List Name) : Type 0 where
  pub name : Name
  pub within : In name names
  pub least : (other : Name) → In other names → IsFrom name other

least_of_more : (x : Name) (xs : List Name) → Least xs → Least (x ∷ xs)
least_of_more x xs l =
    elim (one_below x l.name (slice_cmp nat_cmp x l.name) refl) [
      | inl below ↦ record { name = x; within = here; least = λ y i. under x xs l below y i }
      | inr other ↦ record { name = l.name; within = there l.within; least = λ y i. over x xs l other y i }
    ]
  where
    under : (x : Name) (xs : List Name) (l : Least xs) → precedes x l.name ≡ true → (y : Name) → In y (x ∷ xs)
        → IsFrom x y
    under x xs l below y here = inl refl
    under x xs l below y (there i) = from_from x l.name y below (l.least y i)

    at_head : (x y : Name) → (x ≡ y) ⊎ (precedes y x ≡ true) → IsFrom y x
    at_head x y (inl same) = inl same
    at_head x y (inr below) = inr below

    over : (x : Name) (xs : List Name) (l : Least xs) → (x ≡ l.name) ⊎ (precedes l.name x ≡ true) → (y : Name)
        → In y (x ∷ xs) → IsFrom l.name y
    over x xs l other y here = at_head x l.name other
    over x xs l other y (there i) = l.least y i

pub least_of : (x : Name) (xs : List Name) → Least (x ∷ xs)
least_of x [] = record { name = x; within = here; least = λ y i. only x y i }
  where
    only : (x y : Name) → In y (x ∷ []) → IsFrom x y
    only x y here = inl refl
    only x y (there i) = elim i [ ]
least_of x (y ∷ ys) = least_of_more x (y ∷ ys) (least_of y ys)

-- A way that comes back to its first name, none twice, from its least name.
pub record IsLeastRing (parents : Parents) (least : Name) (others : List Name) : Type 0 where
  pub ring : IsRing parents least others
  pub lowest : AllByRecursion (λ name. precedes least name ≡ true) others

-- it goes round from each of its names
turned : (parents : Parents) (first : Name) (others front : List Name) (name : Name) (back : List Name)
    → IsRing parents first others
    → first ∷ others ≡ front ++ name ∷ back → IsRing parents name (back ++ front)
turned parents first others front name back ring is = record {
  around = lead_append parents name (name ∷ back) front
      (let P : Name → Type 0 = λ v. LeadTo parents v (name ∷ back) in
      subst P (sym comes) (lead_back parents first front (name ∷ back) all))
      (lead_front parents first front (name ∷ back) all);
  distinct = IsDistinct-IsPermutation bytes_eq nat_list_eq_equiv.symm (front ++ name ∷ back) (name ∷ back ++ front)
      (IsPermutation-append_comm front (name ∷ back))
      (let P : List Name → Type 0 = IsDistinct bytes_eq in subst P is ring.distinct);
}
  where
    all : LeadTo parents first (front ++ name ∷ back)
    all = let P : List Name → Type 0 = LeadTo parents first in subst P is ring.around

    comes : first_or name front ≡ first
    comes = sym (first_or-append first front (name ∷ back)) ∙ sym (ap (first_or first) is)

-- the same from its least name
pub turned_least : (parents : Parents) (first : Name) (others front : List Name) (name : Name)
    (back : List Name) → IsRing parents first others
    → first ∷ others ≡ front ++ name ∷ back → ((other : Name) → In other (first ∷ others) → IsFrom name other)
    → IsLeastRing parents name (back ++ front)
turned_least parents first others front name back ring is least = record {
  ring = whole;
  lowest = all_from (λ other. precedes name other ≡ true) (back ++ front)
      (λ other i. above other i (least other (inside other i)));
}
  where
    whole : IsRing parents name (back ++ front)
    whole = turned parents first others front name back ring is

    inside : (other : Name) → In other (back ++ front) → In other (first ∷ others)
    inside other i =
        let P : List Name → Type 0 = In other in
        subst P (sym is) (elim (in_either other back front i) [
          | inl j ↦ in_back other front (name ∷ back) (there j)
          | inr j ↦ in_front other front (name ∷ back) j
        ])

    above : (other : Name) → In other (back ++ front) → IsFrom name other → precedes name other ≡ true
    above other i (inl same) =
        let P : Name → Type 0 = λ v. In v (back ++ front) in
        absurd (distinct_head name (back ++ front) whole.distinct (subst P same i))
    above other i (inr below) = below
