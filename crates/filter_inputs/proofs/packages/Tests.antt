-- Tests of the elements of lists that are seen in another way.
use Rattle.std.proofs.Common.{◌≡◌, Bool, ◌||◌, List, [], ◌∷◌, ap, map, refl}
use Rattle.std.specs.List.{list_any}

pub any_seen : {V X : Type 0} (p : X → Bool) (seen : V → X) (values : List V)
    → list_any (λ v. p (seen v)) values ≡ list_any p (map seen values)
any_seen p seen [] = refl
any_seen p seen (v ∷ values) = ap (λ rest. p (seen v) || rest) (any_seen p seen values)
