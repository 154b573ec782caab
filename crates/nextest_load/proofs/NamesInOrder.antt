-- Which of two names comes first in a list.
use Rattle.std.proofs.Common.{◌≡◌, inl, inr, ◌⊎◌, List, [], ◌∷◌, ◌++◌, ◌||◌, not, true, false, refl, sym, ◌∙◌}
use Rattle.std.specs.List.{AllByRecursion}
use Rattle.std.specs.Str.{bytes_eq}
use Rattle.std.proofs.lemmas.Bool.{and_parts, and_from, or_cases, or_left, or_right, or_parts, not-true, not_from_false, true≢false}
use Rattle.std.proofs.lemmas.List.Folds.{list_any-append}
use Rattle.std.proofs.lemmas.Slice.Eq.{bytes_eq-Decides}
use Rattle.nextest_tree.specs.Schema.{is_one_of}
use Rattle.nextest_tables.specs.Written.{Name}
use Rattle.nextest_load.specs.ScriptNames.{comes_first, AllComeFirst}

pub all_map : {X : Type 0} {P Q : X → Type 0} → ((x : X) → P x → Q x) → (xs : List X) → AllByRecursion P xs
    → AllByRecursion Q xs
all_map f [] h = h
all_map f (x ∷ xs) h = (f x h.0, all_map f xs h.1)

pub all_push : {X : Type 0} (P : X → Type 0) (xs : List X) (x : X) → AllByRecursion P xs → P x
    → AllByRecursion P (xs ++ x ∷ [])
all_push P [] x h here = (here, h)
all_push P (y ∷ xs) x h here = (h.0, all_push P xs x h.1 here)

pub one_of_more : (names more : List Name) (q : Name)
    → is_one_of (names ++ more) q ≡ (is_one_of names q || is_one_of more q)
one_of_more names more q = list_any-append (λ name. bytes_eq name q) names more

-- a name that comes first stays so, whatever follows
pub first_of_more : (names more : List Name) (a b : Name) → comes_first names a b ≡ true
    → comes_first (names ++ more) a b ≡ true
first_of_more [] more a b h = absurd (true≢false (sym h))
first_of_more (n ∷ names) more a b h =
    let parts = and_parts (not (bytes_eq n b)) (bytes_eq n a || comes_first names a b) h in
    let either : (bytes_eq n a || comes_first (names ++ more) a b) ≡ true =
    elim (or_cases (bytes_eq n a) (comes_first names a b) parts.1) [
      | inl here ↦ or_left (bytes_eq n a) (comes_first (names ++ more) a b) here
      | inr after ↦ or_right (bytes_eq n a) (comes_first (names ++ more) a b) (first_of_more names more a b after)
    ]
    in
    and_from (not (bytes_eq n b)) (bytes_eq n a || comes_first (names ++ more) a b) parts.0 either

-- a name that is there comes before one that is not
pub first_where_other_is_not : (names : List Name) (a b : Name) → is_one_of names a ≡ true
    → is_one_of names b ≡ false → comes_first names a b ≡ true
first_where_other_is_not [] a b h k = h
first_where_other_is_not (n ∷ names) a b h k =
    let none = or_parts (bytes_eq n b) (is_one_of names b) k in
    let either : (bytes_eq n a || comes_first names a b) ≡ true = elim (or_cases (bytes_eq n a) (is_one_of names a) h) [
      | inl here ↦ or_left (bytes_eq n a) (comes_first names a b) here
      | inr after ↦ or_right (bytes_eq n a) (comes_first names a b) (first_where_other_is_not names a b after none.1)
    ]
    in
    and_from (not (bytes_eq n b)) (bytes_eq n a || comes_first names a b) (not_from_false (bytes_eq n b) none.0) either

-- a name that comes first is there
pub first_is_there : (names : List Name) (a b : Name) → comes_first names a b ≡ true → is_one_of names a ≡ true
first_is_there [] a b h = h
first_is_there (n ∷ names) a b h =
    let parts = and_parts (not (bytes_eq n b)) (bytes_eq n a || comes_first names a b) h in
    elim (or_cases (bytes_eq n a) (comes_first names a b) parts.1) [
      | inl here ↦ or_left (bytes_eq n a) (is_one_of names a) here
      | inr after ↦ or_right (bytes_eq n a) (is_one_of names a) (first_is_there names a b after)
    ]

-- a name that comes before one of the first names is among these
pub first_in_front : (names more : List Name) (a b : Name) → comes_first (names ++ more) a b ≡ true
    → is_one_of names b ≡ true → comes_first names a b ≡ true
first_in_front [] more a b h k = absurd (true≢false (sym k))
first_in_front (n ∷ names) more a b h k =
    let parts = and_parts (not (bytes_eq n b)) (bytes_eq n a || comes_first (names ++ more) a b) h in
    let other : is_one_of names b ≡ true = elim (or_cases (bytes_eq n b) (is_one_of names b) k) [
      | inl here ↦ absurd (true≢false (sym here ∙ not-true (bytes_eq n b) parts.0))
      | inr after ↦ after
    ]
    in
    let either : (bytes_eq n a || comes_first names a b) ≡ true =
    elim (or_cases (bytes_eq n a) (comes_first (names ++ more) a b) parts.1) [
      | inl here ↦ or_left (bytes_eq n a) (comes_first names a b) here
      | inr after ↦ or_right (bytes_eq n a) (comes_first names a b) (first_in_front names more a b after other)
    ]
    in
    and_from (not (bytes_eq n b)) (bytes_eq n a || comes_first names a b) parts.0 either

-- a name that comes first is among the first names, or first of the others
pub first_in_either : (names more : List Name) (a b : Name) → comes_first (names ++ more) a b ≡ true
    → (is_one_of names a ≡ true) ⊎ (comes_first more a b ≡ true)
first_in_either [] more a b h = inr h
first_in_either (n ∷ names) more a b h =
    let parts = and_parts (not (bytes_eq n b)) (bytes_eq n a || comes_first (names ++ more) a b) h in
    elim (or_cases (bytes_eq n a) (comes_first (names ++ more) a b) parts.1) [
      | inl here ↦ inl (or_left (bytes_eq n a) (is_one_of names a) here)
      | inr after ↦ elim (first_in_either names more a b after) [
        | inl there ↦ inl (or_right (bytes_eq n a) (is_one_of names a) there)
        | inr behind ↦ inr behind
      ]
    ]

-- ids that are in order are so among more names
pub order_among_more : (names more ids : List Name) → AllComeFirst names ids → AllComeFirst (names ++ more) ids
order_among_more names more [] h = h
order_among_more names more (id ∷ ids) h =
    (all_map (λ other. first_of_more names more id other) ids h.0, order_among_more names more ids h.1)

-- an id that is not among the names goes last
pub order_with_last : (names ids : List Name) (n : Name) → AllComeFirst names ids
    → ((q : Name) → is_one_of ids q ≡ true → is_one_of names q ≡ true) → is_one_of names n ≡ false
    → AllComeFirst (names ++ n ∷ []) (ids ++ n ∷ [])
order_with_last names [] n h among new = (tt, tt)
order_with_last names (id ∷ ids) n h among new =
    let there = among id (or_left (bytes_eq id id) (is_one_of ids id) ((bytes_eq-Decides id id).1 refl)) in (
      all_push (λ other. comes_first (names ++ n ∷ []) id other ≡ true) ids n
          (all_map (λ other. first_of_more names (n ∷ []) id other) ids h.0)
          (first_of_more names (n ∷ []) id n (first_where_other_is_not names id n there new)),
      order_with_last names ids n h.1 (λ q is. among q (or_right (bytes_eq id q) (is_one_of ids q) is)) new,
    )
