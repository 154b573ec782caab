-- What is reported of the elements of a list, one after another.
use Rattle.std.proofs.Common.{◌≡◌, ◌∙◌, ◌<◌, ◌+◌, ℕ, List, [], ◌∷◌, ◌++◌, ap, get_or, length, sym, take}
use Rattle.std.proofs.lemmas.List.{take_more}
use Rattle.std.proofs.lemmas.Slice.Zip.{all_zipped_more}
use Rattle.std.specs.List.{AllZip}

-- one more of each of two lists
pub zip_more : {A B : Type 0} (R : A → B → Type 0) (xs : List A) (i : ℕ) (x d : A) → i < length xs
    → x ≡ get_or xs i d → (now new : List B) (y : B) → AllZip R (take i xs) now → R x y
    → new ≡ now ++ y ∷ [] → AllZip R (take (i + 1) xs) new
zip_more R xs i x d below same now new y before is more =
    let taken : take (i + 1) xs ≡ take i xs ++ x ∷ [] = take_more xs i d below
    ∙ ap (λ z. take i xs ++ z ∷ []) (sym same) in
    rw (taken, more) (all_zipped_more R (take i xs) now x y before is)
