-- Ids in order, from a stable sort by the lines of their places.
use Rattle.std.proofs.Common.{◌≡◌, ◌⊎◌, ℕ, suc, ◌<◌, ◌≤◌, Bool, true, List, [], ◌∷◌, length, get_or, filter, map, nat_cmp, is_lt, Less, Some, refl, sym, ap, ◌∙◌, inl, inr, arith}
use Rattle.std.proofs.lemmas.Bool.{cases_Bool, cases_lt}
use Rattle.std.proofs.lemmas.Bool.Decides.{nat_tests}
use Rattle.std.proofs.lemmas.List.Elements.{All-from_recursion, recursion_from_All}
use Rattle.std.proofs.lemmas.List.Sorted.{All-permutation, IsPermutation-map, list_any-IsPermutation}
use Rattle.std.specs.Cmp.Lexicographic.{slice_cmp}
use Rattle.std.specs.List.{AllByRecursion}
use Rattle.std.specs.List.Sorted.{IsNonDecreasingBy, IsPermutation, IsStableByKey, ties}
use Rattle.std.specs.Str.{bytes_eq}
use Rattle.nextest_tree.specs.Node.{Node}
use Rattle.nextest_documents.specs.Shown.{Path}
use Rattle.nextest_documents.specs.Text.{tree_of}
use Rattle.nextest_places.specs.declared.order.PlacedId.{PlacedId}
use Rattle.nextest_places.specs.Ids.{placed_id}
use Rattle.nextest_places.specs.Order.{AllBefore, IsBefore, IsOrder, IsPlace}
use Rattle.nextest_places.specs.Standing.{IdsAscend, is_among, keys_at, stands_in}
use Rattle.nextest_places.proofs.Among.{each_among, exact_is}

ties_at : (m n : ℕ) → m ≡ n → ties (λ x y. is_lt (nat_cmp x y)) m n ≡ true
ties_at m n h = grind (arith, nat_tests)

module _ {X : Type 0} (last : X → ℕ) (id : X → List ℕ) where
  abbrev tie : X → X → Bool
  tie x = ties (λ x y. is_lt (nat_cmp (last x) (last y))) x

  same_ties : (x y : X) → last x ≡ last y → tie x y ≡ true
  same_ties x y h = ties_at (last x) (last y) h

  -- the elements by their ids
  abbrev Below : X → List X → Type 0
  Below x ys = AllByRecursion (λ y. slice_cmp nat_cmp (id x) (id y) ≡ Less) ys

  abbrev Ascend : List X → Type 0
  Ascend [] = Unit {0}
  Ascend (x ∷ xs) = Below x xs × Ascend xs

  below_ids : (x : X) (ys : List X)
      → AllByRecursion (λ y. slice_cmp nat_cmp (id x) y ≡ Less) (map id ys) → Below x ys
  below_ids x [] h = h
  below_ids x (y ∷ ys) h = (h.0, below_ids x ys h.1)

  ascend_ids : (xs : List X) → IdsAscend (map id xs) → Ascend xs
  ascend_ids [] h = tt
  ascend_ids (x ∷ xs) h = (below_ids x xs h.0, ascend_ids xs h.1)

  below_kept : (t : X → Bool) (x : X) (ys : List X) → Below x ys → Below x (filter t ys)
  below_kept t x [] h = h
  below_kept t x (y ∷ ys) h = elim (cases_Bool (t y)) [
    | inl kept ↦ rw kept (h.0, below_kept t x ys h.1)
    | inr gone ↦ rw gone (below_kept t x ys h.1)
  ]

  ascend_kept : (t : X → Bool) (xs : List X) → Ascend xs → Ascend (filter t xs)
  ascend_kept t [] h = h
  ascend_kept t (x ∷ xs) h = elim (cases_Bool (t x)) [
    | inl kept ↦ rw kept (below_kept t x xs h.0, ascend_kept t xs h.1)
    | inr gone ↦ rw gone (ascend_kept t xs h.1)
  ]

  ascend_rest : (t : X → Bool) (x : X) (xs : List X) → Ascend (filter t (x ∷ xs)) → Ascend (filter t xs)
  ascend_rest t x xs h = elim (cases_Bool (t x)) [
    | inl kept ↦ (rw kept at h).1
    | inr gone ↦ rw gone at h
  ]

  -- those that pass a test as the first one does come after it
  first_kept : (t : X → Bool) (x : X) (xs : List X) → t x ≡ true → Ascend (filter t (x ∷ xs)) → Below x (filter t xs)
  first_kept t x xs is h = (rw is at h).0

  module _ (path : Path) (text : List ℕ) where
    abbrev Placed : X → Type 0
    Placed x = IsPlace path text (id x) (last x)

    before_one : (x y : X) → Placed x → Placed y
        → ((last x < last y) ⊎ ((last x ≡ last y) × (slice_cmp nat_cmp (id x) (id y) ≡ Less)))
        → IsBefore path text (id x) (id y)
    before_one x y a b h =
        record { place_a = last x; place_b = last y; at_a = a; at_b = b; before = h }

    before_all : (t : X → Bool) (x : X) (ys : List X) → ((y : X) → last x ≡ last y → t y ≡ true) → Placed x
        → AllByRecursion Placed ys → ((k : ℕ) (d : X) → k < length ys → last x ≤ last (get_or ys k d))
        → Below x (filter t ys) → AllByRecursion (IsBefore path text (id x)) (map id ys)
    before_all t x [] same a b low tied = tt
    before_all t x (y ∷ ys) same a b low tied =
        let more : (k : ℕ) (d : X) → k < length ys → last x ≤ last (get_or ys k d) =
        λ k d h. low (suc k) d (omega (arith, h)) in
        let least : last x ≤ last y = low 0 x (omega arith) in
        elim (cases_lt (last x) (last y)) [
          | inl less ↦ elim (cases_Bool (t y)) [
            | inl kept ↦ (before_one x y a b.0 (inl less), before_all t x ys same a b.1 more (rw kept at tied).1)
            | inr gone ↦ (before_one x y a b.0 (inl less), before_all t x ys same a b.1 more (rw gone at tied))
          ]
          | inr not_less ↦
              let equal : last x ≡ last y = omega (arith, not_less, least) in
              let now = rw (same y equal) at tied in
              (before_one x y a b.0 (inr (equal, now.0)), before_all t x ys same a b.1 more now.1)
        ]

    all_before : (xs : List X) → AllByRecursion Placed xs → IsNonDecreasingBy last xs
        → ((t : X) → Ascend (filter (tie t) xs)) → AllBefore path text (map id xs)
    all_before [] a up tied = tt
    all_before (x ∷ xs) a up tied = (
      before_all (tie x) x xs (same_ties x) a.0 a.1 (λ k d h. up 0 (suc k) d (omega arith) (omega (arith, h)))
          (first_kept (tie x) x xs (same_ties x x refl) (tied x)),
      all_before xs a.1 (λ i j d le lt. up (suc i) (suc j) d (omega (arith, le)) (omega (arith, lt)))
          (λ t. ascend_rest (tie t) x xs (tied t)),
    )

    -- a stable sort by place of ids that ascend puts each before all that follow it
    pub sorted_before : (xs ys : List X) → IdsAscend (map id xs) → AllByRecursion Placed ys
        → IsNonDecreasingBy last ys → IsStableByKey last nat_cmp xs ys → AllBefore path text (map id ys)
    sorted_before xs ys ascends placed up stable =
        all_before ys placed up
        (λ t. rw (stable t) (ascend_kept (tie t) xs (ascend_ids xs ascends)))

few_before : (path : Path) (text : List ℕ) (ids : List (List ℕ)) → length ids < 2 → AllBefore path text ids
few_before path text [] few = tt
few_before path text (x ∷ []) few = (tt, tt)
few_before path text (x ∷ y ∷ ids) few = absurd (omega (arith, few))

module _ (path : Path) (text : List ℕ) (n : Node) (is : tree_of text ≡ Some n) (ids : List (List ℕ))
    (all : ids ≡ keys_at path n) where
  -- each id is in the text
  pub all_stand : AllByRecursion (λ id. stands_in path text id ≡ true) ids
  all_stand = each_among ids (λ id. stands_in path text id) (λ id here. sym (exact_is path text n ids is all id) ∙ here)

  -- fewer than two ids are in order
  pub few_order : length ids < 2 → IsOrder path text ids
  few_order few = record { ordered = few_before path text ids few; exact = exact_is path text n ids is all }

  -- and more are, once they are sorted by their places
  pub sorted_order : (xs ys : List PlacedId) → map placed_id xs ≡ ids → IdsAscend ids
      → AllByRecursion (λ p. IsPlace path text (placed_id p) p.last) xs → IsPermutation xs ys
      → IsNonDecreasingBy (λ p. p.last) ys → IsStableByKey (λ p. p.last) nat_cmp xs ys
      → IsOrder path text (map placed_id ys)
  sorted_order xs ys same ascends placed moved up stable =
      let P : PlacedId → Type 0 = λ p. IsPlace path text (placed_id p) p.last in
      let moved_placed = recursion_from_All P ys (All-permutation P xs ys moved (All-from_recursion P xs placed)) in
      record {
        ordered = sorted_before (λ p. p.last) placed_id path text xs ys (rw same ascends) moved_placed up stable;
        exact = λ id.
            sym (list_any-IsPermutation (bytes_eq id) (map placed_id xs) (map placed_id ys)
            (IsPermutation-map placed_id xs ys moved))
            ∙ ap (λ l. is_among l id) same ∙ exact_is path text n ids is all id;
      }
