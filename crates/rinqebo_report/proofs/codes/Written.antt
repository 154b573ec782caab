-- Texts that a loop has written.
use Rattle.std.proofs.Common.{◌≡◌, ◌<◌, ◌+◌, ℕ, List, [], ◌∷◌, ◌++◌, length, take, get_or, flat_map, sym, ap, ◌∙◌}
use Rattle.std.proofs.lemmas.Grind.{take_at_read}
use Rattle.std.proofs.lemmas.List.{flat_map_more}

-- what one turn more of a loop has written
pub written_more : {X : Type 0} (f : X → List ℕ) (xs : List X) (i : ℕ) (x : X) → i < length xs → x ≡ get_or xs i x
    → (start old new : List ℕ) → old ≡ start ++ flat_map f (take i xs) → new ≡ old ++ f x
    → new ≡ start ++ flat_map f (take (i + 1) xs)
written_more {X} f xs i x lt is start old new h n =
    let more : take (i + 1) xs ≡ take i xs ++ x ∷ [] =
    (take_at_read xs i x lt).1 ∙ ap (λ y. take i xs ++ y ∷ []) (sym is) in
    n ∙ ap (λ t. t ++ f x) h ∙ flat_map_more f start (take i xs) x ∙ ap (λ ys. start ++ flat_map f ys) (sym more)
