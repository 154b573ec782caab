use Rattle.std.proofs.Common.{◌≡◌, ℕ, ◌+◌, suc, zero, Bool, true, false, Some, List, [], ◌∷◌, map, refl, sym, subst, ◌∙◌, ◌||◌, ◌==◌}
use Rattle.std.specs.Prelude.{slice_get}
use Rattle.std.specs.Int.{bit_at}
use Rattle.std.specs.List.{list_any}
use Rattle.std.proofs.lemmas.Nat.Bits.{bit_at_lowest, bit_at-suc}
use Rattle.rule_lists.specs.Lists.{IsListOf}
use Rattle.rule_lists.proofs.ListOf.{numbers_of, list-of}
use Rattle.rule_lists.specs.Rows.{lists_of, rows_of, list_at}
use Rattle.rule_lists.proofs.Bits.{halved}

module _ {K R : Type 0} (listed : K → R → Bool) where
  lists-at : (lists : List K) (k : ℕ) (list : K) (r : R) → slice_get lists k ≡ Some list
      → bit_at (lists_of (map listed lists) r) k == 1 ≡ listed list r
  lists-at [] k list r e = absurd cc
  lists-at (l ∷ lists) zero list r e =
      let same : l ≡ list = cc in
      rw (← same, bit_at_lowest (lists_of (map listed (l ∷ lists)) r))
      ((halved (lists_of (map listed lists) r) (listed l r)).1)
  lists-at (l ∷ lists) (suc k) list r e =
      rw (
        bit_at-suc (lists_of (map listed (l ∷ lists)) r) k,
        (halved (lists_of (map listed lists) r) (listed l r)).0,
      ) (lists-at lists k list r e)

  unlisted-at : (lists : List K) (k : ℕ) (list : K) (r : R) → slice_get lists k ≡ Some list
      → list_any (λ test. test r) (map listed lists) ≡ false → listed list r ≡ false
  unlisted-at [] k list r e fails = absurd cc
  unlisted-at (l ∷ lists) k list r e fails =
      go (listed l r) refl fails k e (λ j at none. unlisted-at lists j list r at none) where
        go : (b : Bool) → listed l r ≡ b → b || list_any (λ test. test r) (map listed lists) ≡ false → (k : ℕ)
            → slice_get (l ∷ lists) k ≡ Some list
            → ((j : ℕ) → slice_get lists j ≡ Some list → list_any (λ test. test r) (map listed lists) ≡ false
            → listed list r ≡ false) → listed list r ≡ false
        go true is fails k e more = absurd cc
        go false is fails zero e more = let same : l ≡ list = cc in rw (← same) is
        go false is fails (suc k) e more = more k e fails

  -- each list of the rows is that of its test
  pub column-is : (lists : List K) (first : ℕ) (rules : List R) (k : ℕ) (list : K)
      → slice_get lists k ≡ Some list
      → list_at k (rows_of (map listed lists) first rules) ≡ numbers_of (listed list) first rules
  column-is lists first [] k list e = refl
  column-is lists first (r ∷ rules) k list e =
      go (list_any (λ test. test r) (map listed lists)) refl (column-is lists (first + 1) rules k list e) where
        go : (b : Bool) → list_any (λ test. test r) (map listed lists) ≡ b
            → list_at k (rows_of (map listed lists) (first + 1) rules) ≡ numbers_of (listed list) (first + 1) rules
            → list_at k (rows_of (map listed lists) first (r ∷ rules)) ≡ numbers_of (listed list) first (r ∷ rules)
        go true is more = rw (is, lists-at lists k list r e, more) refl
        go false is more = rw (is, unlisted-at lists k list r e is, more) refl

  -- and so it is the rising list of that test, by what f shows of rules
  pub column-list : {V : Type 0} (f : R → V) (test : V → Bool) (lists : List K) (first : ℕ) (rules : List R)
      (k : ℕ) (list : K) → ((r : R) → listed list r ≡ test (f r)) → slice_get lists k ≡ Some list
      → IsListOf test first (map f rules) (list_at k (rows_of (map listed lists) first rules))
  column-list f test lists first rules k list same e =
      subst (IsListOf test first (map f rules))
      (sym (column-is lists first rules k list e ∙ seen first rules)) (list-of test first (map f rules))
    where
      seen : (n : ℕ) (rs : List R) → numbers_of (listed list) n rs ≡ numbers_of test n (map f rs)
      seen n [] = refl
      seen n (r ∷ rs) = rw (same r, seen (n + 1) rs) refl
