-- Items that are made of others, one after another.
use Rattle.std.proofs.Common.{◌≡◌, ◌∙◌, List, [], ◌∷◌, ◌++◌, ap, append_assoc, map, sym}
use Rattle.std.proofs.lemmas.List.{map-append}

-- one more item that is made of the first one left
pub one_moved : {X Y : Type 0} (f : X → Y) (made : List X) (one first : X) (left rest now : List X) (all : List Y)
    → map f made ++ map f left ≡ all → left ≡ first ∷ rest → now ≡ made ++ one ∷ [] → f one ≡ f first
    → map f now ++ map f rest ≡ all
one_moved f made one first left rest now all before next more same =
    ap (λ xs. map f xs ++ map f rest) more
    ∙ ap (λ ys. ys ++ map f rest) (map-append f made (one ∷ []))
    ∙ append_assoc (map f made) (f one ∷ []) (map f rest)
    ∙ ap (λ y. map f made ++ y ∷ map f rest) same
    ∙ ap (λ xs. map f made ++ map f xs) (sym next)
    ∙ before
