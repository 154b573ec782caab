-- One profile more in front of others.
use Rattle.std.proofs.Common.{◌≡◌, ◌∙◌, ◌+◌, ◌<◌, ℕ, zero, suc, sym, ap, arith, Option, Some, None, unwrap_or, List, [], ◌∷◌, length, map, drop, get_or}
use Rattle.std.proofs.lemmas.Grind.{common_steps}
use Rattle.std.specs.Option.{option_or}
use Rattle.nextest_load.specs.Complete.{IsComplete}
use Rattle.nextest_tables.specs.Written.{WrittenFields}
use Rattle.nextest_settings.specs.declared.values.ProfileValues.{ProfileValues}
use Rattle.nextest_settings.specs.ChainValues.{AreValues, EndsComplete}

-- what a profile writes, or else what the profiles further on say
pub nearer : {X : Type 0} (o r : Option X) (d x : X) → r ≡ Some d → x ≡ unwrap_or o d → option_or o r ≡ Some x
nearer None r d x is found = is ∙ ap Some (sym found)
nearer (Some y) r d x is found = ap Some (sym found)

-- the last profile of a chain
pub last_complete : {B : Type 0} (h : B → WrittenFields) (xs : List B) (i : ℕ) (x d : B)
    → EndsComplete (map h xs) → i + 1 ≡ length xs → x ≡ get_or xs i d → IsComplete (h x)
last_complete h [] i x d ends is at = absurd ends
last_complete h (y ∷ []) i x d ends is at =
    let first : i ≡ 0 = omega (arith) in
    let same : x ≡ y = rw first at at in
    rw same ends
last_complete h (y ∷ z ∷ ys) zero x d ends is at = absurd (omega arith)
last_complete h (y ∷ z ∷ ys) (suc i) x d ends is at = last_complete h (z ∷ ys) i x d ends (omega arith) at

pub not_empty : {B : Type 0} (h : B → WrittenFields) (xs : List B) → EndsComplete (map h xs) → 0 < length xs
not_empty h [] ends = absurd ends
not_empty h (x ∷ xs) ends = omega arith

-- what is left of a chain at its last profile, and at one before that
pub at_last : {B : Type 0} (h : B → WrittenFields) (xs : List B) (i : ℕ) (x d : B) (v : ProfileValues)
    → i + 1 ≡ length xs → x ≡ get_or xs i d
    → AreValues (h x ∷ []) v → AreValues (map h (drop i xs)) v
at_last h xs i x d v is at values =
    let split : drop i xs ≡ x ∷ [] = grind (arith, common_steps) in
    rw split values

pub one_nearer : {B : Type 0} (h : B → WrittenFields) (xs : List B) (i j : ℕ) (x d : B) (v : ProfileValues)
    → j + 1 ≡ i → j < length xs → x ≡ get_or xs j d
    → AreValues (h x ∷ map h (drop i xs)) v → AreValues (map h (drop j xs)) v
one_nearer h xs i j x d v next below at values =
    let split : drop j xs ≡ x ∷ drop (j + 1) xs = grind (arith, common_steps) in
    rw (split, next) values
