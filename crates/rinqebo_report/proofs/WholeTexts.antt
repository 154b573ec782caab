-- Texts that a loop has written.
use Rattle.std.proofs.Common.{◌≡◌, ◌<◌, ◌+◌, ℕ, List, [], ◌∷◌, ◌++◌, length, take, get_or, map, flat_map, Result, Ok, Err, OnOk, refl, sym, ap, ◌∙◌, append_assoc}
use Rattle.std.proofs.lemmas.Grind.{take_at_read}
use Rattle.std.proofs.lemmas.List.{flat_map_more}

-- a list with each element as it is
map_same : (xs : List ℕ) → xs ≡ map (λ c. c) xs
map_same [] = refl
map_same (x ∷ xs) = ap (λ ys. x ∷ ys) (map_same xs)

-- what was written piece by piece
pub written_four : (old a b d e first second third last : List ℕ)
    → first ≡ old ++ a → second ≡ first ++ b → third ≡ second ++ d → last ≡ third ++ e
    → last ≡ old ++ (a ++ (b ++ (d ++ e)))
written_four old a b d e first second third last p q r s =
    s ∙ ap (λ t. t ++ e) (r ∙ ap (λ t. t ++ d) (q ∙ ap (λ t. t ++ b) p))
    ∙ append_assoc ((old ++ a) ++ b) d e
    ∙ append_assoc (old ++ a) b (d ++ e)
    ∙ append_assoc old a (b ++ (d ++ e))

-- what holds of a result that is not an error
pub on_ok : {T E : Type 0} (result : Result T E) (P Q : Type 0) → (P → Q) → OnOk result P → OnOk result Q
on_ok (Ok x) P Q f h = f h
on_ok (Err e) P Q f h = h

-- what was written of each element that was gone through was written of all
pub written_whole : (f : ℕ → List ℕ) (old new xs all : List ℕ) → map (λ c. c) xs ≡ all
    → new ≡ old ++ flat_map f xs → new ≡ old ++ flat_map f all
written_whole f old new xs all e h = h ∙ ap (λ ys. old ++ flat_map f ys) (map_same xs ∙ e)

-- what one turn more of a loop has written
pub written_more : {X : Type 0} (f : X → List ℕ) (xs : List X) (i : ℕ) (x : X) → i < length xs → x ≡ get_or xs i x
    → (start old new : List ℕ) → old ≡ start ++ flat_map f (take i xs) → new ≡ old ++ f x
    → new ≡ start ++ flat_map f (take (i + 1) xs)
written_more {X} f xs i x lt is start old new h n =
    let more : take (i + 1) xs ≡ take i xs ++ x ∷ [] =
    (take_at_read xs i x lt).1 ∙ ap (λ y. take i xs ++ y ∷ []) (sym is) in
    n ∙ ap (λ t. t ++ f x) h ∙ flat_map_more f start (take i xs) x ∙ ap (λ ys. start ++ flat_map f ys) (sym more)
