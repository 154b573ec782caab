-- Facts of each rule of a list, rule by rule.
use Rattle.std.proofs.Common.{◌≡◌, ◌<◌, ℕ, zero, suc, List, [], ◌∷◌, length, map, get_or, arith}
use Rattle.nextest_sources.specs.InputFaults.{Each}

-- the fact of one element of a list that is seen by f
pub each_at : {A X : Type 0} (P : X → Type 0) (f : A → X) (xs : List A) (i : ℕ) (x d : A) → Each P (map f xs)
    → i < length xs → x ≡ get_or xs i d → P (f x)
each_at P f [] i x d each under at = absurd (omega (arith, under))
each_at P f (y ∷ ys) zero x d each under at = rw at each.0
each_at P f (y ∷ ys) (suc i) x d each under at = each_at P f ys i x d each.1 (omega (arith, under)) at
