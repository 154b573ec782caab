-- Lists whose elements belong to each other, one by one.
use Rattle.std.proofs.Common.{◌≡◌, ℕ, ◌<◌, ◌+◌, ◌∙◌, List, [], ◌∷◌, ◌++◌, length, map, take, get_or, sym, ap, subst}
use Rattle.std.specs.List.{AllZip}
use Rattle.std.proofs.lemmas.List.{map-append, take_more}
use Rattle.std.proofs.lemmas.Slice.Zip.{all_zipped_more}

-- more beside more
pub zip_behind : {A B : Type 0} (R : A → B → Type 0) (xs us : List A) (ys vs : List B) → AllZip R xs ys → AllZip R us vs
    → AllZip R (xs ++ us) (ys ++ vs)
zip_behind R [] us [] vs one two = two
zip_behind R [] us (y ∷ ys) vs one two = absurd one
zip_behind R (x ∷ xs) us [] vs one two = absurd one
zip_behind R (x ∷ xs) us (y ∷ ys) vs one two = (one.0, zip_behind R xs us ys vs one.1 two)

-- one more of a list
pub taken : {X : Type 0} (xs : List X) (i : ℕ) (x d : X) → i < length xs → x ≡ get_or xs i d
    → take (i + 1) xs ≡ take i xs ++ x ∷ []
taken xs i x d lt is = take_more xs i d lt ∙ ap (λ y. take i xs ++ y ∷ []) (sym is)

-- what is made of one more of a list
pub taken_read : {X Y : Type 0} (f : X → Y) (xs : List X) (i : ℕ) (x d : X) → i < length xs → x ≡ get_or xs i d
    → map f (take (i + 1) xs) ≡ map f (take i xs) ++ f x ∷ []
taken_read f xs i x d lt is = ap (map f) (taken xs i x d lt is) ∙ map-append f (take i xs) (x ∷ [])

-- one more beside what is made of one more
pub zip_more : {X A B : Type 0} (f : X → A) (R : A → B → Type 0) (xs : List X) (i : ℕ) (x d : X) → i < length xs
    → x ≡ get_or xs i d → (ys : List B) (y : B) (zs : List B) → AllZip R (map f (take i xs)) ys → R (f x) y
    → zs ≡ ys ++ y ∷ [] → AllZip R (map f (take (i + 1) xs)) zs
zip_more f R xs i x d lt is ys y zs all r then =
    subst (AllZip R (map f (take (i + 1) xs))) (sym then)
    (subst (λ ws. AllZip R ws (ys ++ y ∷ [])) (sym (taken_read f xs i x d lt is))
    (all_zipped_more R (map f (take i xs)) ys (f x) y all r))

-- one more of a list is taken
pub taken_one : {X : Type 0} (xs : List X) (i : ℕ) (x d : X) → i < length xs → x ≡ get_or xs i d → (old new : List X)
    → old ≡ take i xs → new ≡ old ++ x ∷ [] → new ≡ take (i + 1) xs
taken_one xs i x d lt is old new before then =
    then ∙ ap (λ ys. ys ++ x ∷ []) before ∙ sym (taken xs i x d lt is)
