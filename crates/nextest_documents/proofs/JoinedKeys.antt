-- Keys that are joined, as code holds them and as contracts see them.
use Rattle.std.proofs.Common.{◌≡◌, ◌++◌, ℕ, List, [], ◌∷◌, map, refl, ap}
use Rattle.std.specs.List.{join_by, flat_map}

-- what each text gives, in a row
flat_map-map : {X : Type 0} (f : X → List ℕ) (sep : List ℕ) (xs : List X)
    → flat_map (λ y. sep ++ f y) xs ≡ flat_map (λ y. sep ++ y) (map f xs)
flat_map-map f sep [] = refl
flat_map-map f sep (x ∷ xs) = ap (λ rest. (sep ++ f x) ++ rest) (flat_map-map f sep xs)

-- texts joined by their bytes
pub joined_keys : {X : Type 0} (f : X → List ℕ) (sep : List ℕ) (xs : List X)
    → join_by f sep xs ≡ join_by (λ text. text) sep (map f xs)
joined_keys f sep [] = refl
joined_keys f sep (x ∷ xs) = ap (λ rest. f x ++ rest) (flat_map-map f sep xs)
