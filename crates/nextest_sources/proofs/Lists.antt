-- Lists that are mapped.
use Rattle.std.proofs.Common.{◌≡◌, List, [], ◌∷◌, map, reverse, refl, sym}
use Rattle.std.proofs.lemmas.List.{map-append, reverse-append}

pub map_reversed : {X Y : Type 0} (f : X → Y) (xs : List X) → map f (reverse xs) ≡ reverse (map f xs)
map_reversed f [] = refl
map_reversed f (x ∷ xs) =
    rw (reverse-append (x ∷ []) xs, map-append f (reverse xs) (x ∷ []), map_reversed f xs)
    (sym (reverse-append (f x ∷ []) (map f xs)))
