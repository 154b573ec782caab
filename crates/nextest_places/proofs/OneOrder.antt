-- A text has one order of the ids at a path.
use Rattle.std.proofs.Common.{◌≡◌, ◌⊎◌, ℕ, ◌<◌, true, false, List, [], ◌∷◌, nat_cmp, Less, Greater, refl, sym, ap, ◌∙◌, subst, inl, inr, arith}
use Rattle.std.proofs.lemmas.Bool.{cases_Bool, cases_lt, false≢true, true≢false}
use Rattle.std.proofs.lemmas.Cmp.{nat_list_cmp_total}
use Rattle.std.proofs.lemmas.Slice.Eq.{bytes_eq-Decides}
use Rattle.std.specs.Cmp.Lexicographic.{slice_cmp}
use Rattle.std.specs.List.{AllByRecursion}
use Rattle.std.specs.Ordering.{ordering_reverse}
use Rattle.std.specs.Str.{bytes_eq}
use Rattle.nextest_documents.specs.Shown.{Path}
use Rattle.nextest_places.specs.Law.{OrdersAreOne}
use Rattle.nextest_places.specs.Order.{AllBefore, IsBefore, IsPlace}
use Rattle.nextest_places.specs.Standing.{is_among}

-- bytes that are below others are not above them
one_way : (a b : List ℕ) → slice_cmp nat_cmp a b ≡ Less → slice_cmp nat_cmp b a ≡ Less → ⊥
one_way a b less more =
    let turned : slice_cmp nat_cmp a b ≡ Greater = nat_list_cmp_total.antisymm a b ∙ ap ordering_reverse more in
    let same : Less ≡ Greater = sym less ∙ turned in
    absurd (cc)

module _ (path : Path) (text : List ℕ) where
  not_sooner : (id : List ℕ) (m n : ℕ) → IsPlace path text id m → IsPlace path text id n → m < n → ⊥
  not_sooner id m n a b less = true≢false (sym a.there ∙ b.least m less)

  same_place : (id : List ℕ) (m n : ℕ) → IsPlace path text id m → IsPlace path text id n → m ≡ n
  same_place id m n a b =
      elim (cases_lt m n) [
        | inl less ↦ absurd (not_sooner id m n a b less)
        | inr more ↦ elim (cases_lt n m) [
          | inl less ↦ absurd (not_sooner id n m b a less)
          | inr same ↦ omega (arith, more, same)
        ]
      ]

  apart : (a b : List ℕ) (m n : ℕ) → ((m < n) ⊎ ((m ≡ n) × (slice_cmp nat_cmp a b ≡ Less)))
      → ((n < m) ⊎ ((n ≡ m) × (slice_cmp nat_cmp b a ≡ Less))) → ⊥
  apart a b m n (inl less) (inl more) = absurd (omega (arith, less, more))
  apart a b m n (inl less) (inr more) = absurd (omega (arith, less, more.0))
  apart a b m n (inr less) (inl more) = absurd (omega (arith, less.0, more))
  apart a b m n (inr less) (inr more) = one_way a b less.1 more.1

  -- no id is before one that is before it
  not_both : (a b : List ℕ) → IsBefore path text a b → IsBefore path text b a → ⊥
  not_both a b one two =
      let same_a = same_place a two.place_b one.place_a two.at_b one.at_a in
      let same_b = same_place b two.place_a one.place_b two.at_a one.at_b in
      apart a b one.place_a one.place_b one.before (rw (same_a, same_b) at two.before)

  itself : (id : List ℕ) → bytes_eq id id ≡ true
  itself id = (bytes_eq-Decides id id).1 refl

  -- one of some ids is one that a fact of each holds of
  of_each : (P : List ℕ → Type 0) (id : List ℕ) (ids : List (List ℕ)) → AllByRecursion P ids
      → is_among ids id ≡ true → P id
  of_each P id [] all here = absurd (false≢true here)
  of_each P id (x ∷ ids) all here =
      elim (cases_Bool (bytes_eq id x)) [
        | inl same ↦ subst P (sym ((bytes_eq-Decides id x).0 same)) all.0
        | inr other ↦ of_each P id ids all.1 (rw other at here)
      ]

  not_later : (x : List ℕ) (ids : List (List ℕ)) → AllByRecursion (IsBefore path text x) ids → is_among ids x ≡ false
  not_later x ids all =
      elim (cases_Bool (is_among ids x)) [
        | inl here ↦
            let before = of_each (IsBefore path text x) x ids all here in
            absurd (not_both x x before before)
        | inr none ↦ none
      ]

  -- the first ids of two orders are one
  first_is : (x y : List ℕ) (xs ys : List (List ℕ)) → AllByRecursion (IsBefore path text x) xs
      → AllByRecursion (IsBefore path text y) ys → is_among (y ∷ ys) x ≡ true → is_among (x ∷ xs) y ≡ true → x ≡ y
  first_is x y xs ys one two a b =
      elim (cases_Bool (bytes_eq x y)) [
        | inl same ↦ (bytes_eq-Decides x y).0 same
        | inr other ↦ elim (cases_Bool (bytes_eq y x)) [
          | inl same ↦ sym ((bytes_eq-Decides y x).0 same)
          | inr apart_too ↦ absurd (not_both x y (of_each (IsBefore path text x) y xs one (rw apart_too at b))
              (of_each (IsBefore path text y) x ys two (rw other at a)))
        ]
      ]

  -- the ids behind the first one
  rest_is : (x : List ℕ) (xs ys : List (List ℕ)) → AllByRecursion (IsBefore path text x) xs
      → AllByRecursion (IsBefore path text x) ys
      → ((id : List ℕ) → is_among (x ∷ xs) id ≡ is_among (x ∷ ys) id) → (id : List ℕ)
      → is_among xs id ≡ is_among ys id
  rest_is x xs ys one two same id =
      elim (cases_Bool (bytes_eq id x)) [
        | inl here ↦
            let is : id ≡ x = (bytes_eq-Decides id x).0 here in
            ap (is_among xs) is ∙ not_later x xs one ∙ sym (not_later x ys two) ∙ ap (is_among ys) (sym is)
        | inr other ↦ rw other at (same id)
      ]

  orders_are_one : (xs ys : List (List ℕ)) → AllBefore path text xs → AllBefore path text ys
      → ((id : List ℕ) → is_among xs id ≡ is_among ys id) → xs ≡ ys
  orders_are_one [] [] one two same = refl
  orders_are_one [] (y ∷ ys) one two same =
      absurd (false≢true (same y ∙ rw (itself y) refl))
  orders_are_one (x ∷ xs) [] one two same =
      absurd (false≢true (sym (same x) ∙ rw (itself x) refl))
  orders_are_one (x ∷ xs) (y ∷ ys) one two same =
      let is = first_is x y xs ys one.0 two.0 (sym (same x) ∙ rw (itself x) refl) (same y ∙ rw (itself y) refl) in
      let behind : AllByRecursion (IsBefore path text x) ys =
      subst (λ z. AllByRecursion (IsBefore path text z) ys) (sym is) two.0 in
      let all : (id : List ℕ) → is_among (x ∷ xs) id ≡ is_among (x ∷ ys) id =
      λ id. same id ∙ ap (λ z. is_among (z ∷ ys) id) (sym is) in
      ap (λ z. z ∷ xs) is
      ∙ ap (λ t. y ∷ t) (orders_are_one xs ys one.1 two.1 (rest_is x xs ys one.0 behind all))

pub one_order : OrdersAreOne
one_order path text ids others one two =
    orders_are_one path text ids others one.ordered two.ordered (λ id. one.exact id ∙ sym (two.exact id))
