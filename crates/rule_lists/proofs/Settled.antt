use Rattle.std.proofs.Common.{◌≡◌, ℕ, ◌+◌, ◌/◌, ◌%◌, ◌<◌, ◌≢◌, suc, zero, false, Option, Some, List, [], ◌∷◌, ◌++◌, length, take, drop, set, refl, ap, sym, arith, add-one, eq-eqb, eqb}
use Rattle.rule_lists.specs.Rows.{settled}

-- one turn of the loop
module _ {R : Type 0} (r : R) (bits : ℕ) where
  taken-suc : (k : ℕ) (xs : List (Option R)) → k < length xs → bits % 2 ≡ 1
      → take k xs ++ settled r bits (drop k xs) ≡ take (suc k) (set xs k (Some r))
      ++ settled r (bits / 2) (drop (suc k) (set xs k (Some r)))
  taken-suc k [] under odd = absurd (omega arith)
  taken-suc zero (x ∷ xs) under odd = rw (eq-eqb (bits % 2) 1 odd) refl
  taken-suc (suc k) (x ∷ xs) under odd = ap (λ l. x ∷ l) (taken-suc k xs (omega (arith, under)) odd)

  left-suc : (k : ℕ) (xs : List (Option R)) → k < length xs → eqb (bits % 2) 1 ≡ false
      → take k xs ++ settled r bits (drop k xs) ≡ take (suc k) xs ++ settled r (bits / 2) (drop (suc k) xs)
  left-suc k [] under even = absurd (omega arith)
  left-suc zero (x ∷ xs) under even = rw even refl
  left-suc (suc k) (x ∷ xs) under even = ap (λ l. x ∷ l) (left-suc k xs (omega (arith, under)) even)

  pub taken : (k : ℕ) (xs : List (Option R)) → k < length xs → bits % 2 ≡ 1
      → take (k + 1) (set xs k (Some r)) ++ settled r (bits / 2) (drop (k + 1) (set xs k (Some r)))
      ≡ take k xs ++ settled r bits (drop k xs)
  taken k xs under odd = rw (add-one k) (sym (taken-suc k xs under odd))

  pub left : (k : ℕ) (xs : List (Option R)) → k < length xs → bits % 2 ≢ 1
      → take (k + 1) xs ++ settled r (bits / 2) (drop (k + 1) xs) ≡ take k xs ++ settled r bits (drop k xs)
  left k xs under even = let no : eqb (bits % 2) 1 ≡ false = grind arith in
      rw (add-one k) (sym (left-suc k xs under no))
