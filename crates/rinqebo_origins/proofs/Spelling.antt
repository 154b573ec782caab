-- Steps as users spell them.
use Rattle.std.proofs.Common.{◌≡◌, ◌++◌, ◌∙◌, ℕ, List, [], ◌∷◌, String, Global, ap, map, refl, string_bytes, sym}
use Rattle.std.specs.List.{flat_map, join_by}

-- what each text gives, in a row
flat_map-texts : {X : Type 0} (f : X → List ℕ) (sep : List ℕ) (xs : List X)
    → flat_map (λ y. sep ++ f y) xs ≡ flat_map (λ y. sep ++ y) (map f xs)
flat_map-texts f sep [] = refl
flat_map-texts f sep (x ∷ xs) = ap (λ rest. (sep ++ f x) ++ rest) (flat_map-texts f sep xs)

-- texts joined by their bytes
joined : {X : Type 0} (f : X → List ℕ) (sep : List ℕ) (xs : List X)
    → join_by f sep xs ≡ join_by (λ text. text) sep (map f xs)
joined f sep [] = refl
joined f sep (x ∷ xs) = ap (λ rest. f x ++ rest) (flat_map-texts f sep xs)

-- texts that are those of some things are joined as these are
pub joined_alike : {X Y : Type 0} (f : X → List ℕ) (g : Y → List ℕ) (sep : List ℕ) (xs : List X) (ys : List Y)
    → map f xs ≡ map g ys → join_by f sep xs ≡ join_by g sep ys
joined_alike f g sep xs ys same =
    joined f sep xs ∙ ap (join_by (λ text. text) sep) same ∙ sym (joined g sep ys)
