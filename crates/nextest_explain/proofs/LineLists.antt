-- Lines, as loops put them one behind another.
use Rattle.std.proofs.Common.{◌≡◌, ◌∙◌, ◌++◌, ◌+◌, ◌<◌, ℕ, List, [], ◌∷◌, ap, refl, sym, length, map, take, get_or}
use Rattle.std.proofs.lemmas.List.{take_more, flat_map_more}
use Rattle.std.specs.List.{flat_map}

-- the lines of one more
pub lines_more : {X : Type 0} (f : X → List ℕ) (xs : List X) (i : ℕ) (x d : X) → i < length xs → x ≡ get_or xs i d
    → (now new : List ℕ) → now ≡ flat_map f (take i xs) → new ≡ now ++ f x → new ≡ flat_map f (take (i + 1) xs)
lines_more f xs i x d below same now new was is =
    is
    ∙ ap (λ text. text ++ f x) was
    ∙ flat_map_more f [] (take i xs) x
    ∙ ap (flat_map f) (ap (λ y. take i xs ++ y ∷ []) same ∙ sym (take_more xs i d below))

-- the lines of values are those of what contracts see of them
pub lines_of_views : {X Y : Type 0} (f : Y → List ℕ) (view : X → Y) (xs : List X)
    → flat_map (λ x. f (view x)) xs ≡ flat_map f (map view xs)
lines_of_views f view [] = refl
lines_of_views f view (x ∷ xs) = ap (λ rest. f (view x) ++ rest) (lines_of_views f view xs)
