-- Lists that grow by one element of another list after another.
use Rattle.std.proofs.Common.{◌≡◌, ◌∙◌, ◌++◌, ◌+◌, ◌<◌, ℕ, List, [], ◌∷◌, ap, sym, length, take, get_or}
use Rattle.std.proofs.lemmas.List.{take_more}

-- one element more
pub one_more : {X : Type 0} (xs : List X) (i : ℕ) (ys : List X) (x d : X) → i < length xs → x ≡ get_or xs i d
    → ys ≡ take i xs → ys ++ x ∷ [] ≡ take (i + 1) xs
one_more xs i ys x d below at is =
    ap (λ zs. zs ++ x ∷ []) is ∙ ap (λ z. take i xs ++ z ∷ []) at ∙ sym (take_more xs i d below)
