-- What is reported of the pairs of two lists, one after another.
use Rattle.std.proofs.Common.{◌≡◌, ◌<◌, ◌+◌, ◌∙◌, ℕ, List, [], ◌∷◌, ◌++◌, ap, arith, get_or, length, map, min, subst, sym, take}
use Rattle.std.proofs.lemmas.List.{take_all, take_more}
use Rattle.std.proofs.lemmas.Slice.Zip.{all_zipped_more, get_or-zip, length-zip}
use Rattle.std.specs.List.{AllZip, zip}

-- one more pair
pub pair_more : {A B Y : Type 0} (R : A × B → Y → Type 0) (ks : List A) (vs : List B) (n m : ℕ) (k : A) (v : B)
    (now new : List Y) (y : Y) → n < length ks → n < length vs → k ≡ get_or ks n k → v ≡ get_or vs n v
    → m ≡ n + 1 → AllZip R (take n (zip ks vs)) now → R (k, v) y → new ≡ now ++ y ∷ []
    → AllZip R (take m (zip ks vs)) new
pair_more R ks vs n m k v now new y low below at_k at_v next before is more =
    let long : n < length (zip ks vs) = omega (arith, length-zip ks vs) in
    let here : (k, v) ≡ get_or (zip ks vs) n (k, v) =
    (λ i. (at_k i, at_v i)) ∙ sym (get_or-zip ks vs n (k, v) low below) in
    let taken : take (n + 1) (zip ks vs) ≡ take n (zip ks vs) ++ (k, v) ∷ [] =
    take_more (zip ks vs) n (k, v) long ∙ ap (λ z. take n (zip ks vs) ++ z ∷ []) (sym here) in
    rw (next, taken, more) (all_zipped_more R (take n (zip ks vs)) now (k, v) y before is)

-- all pairs
pub pairs_all : {A B Y : Type 0} (R : A × B → Y → Type 0) (ks : List A) (vs : List B) (n : ℕ) (ys : List Y)
    → n ≡ min (length ks) (length vs) → AllZip R (take n (zip ks vs)) ys → AllZip R (zip ks vs) ys
pairs_all R ks vs n ys all told =
    subst (λ xs. AllZip R xs ys) (take_all n (zip ks vs) (omega (arith, length-zip ks vs))) told

-- what is reported of pairs is reported of them with the first of each turned into something else
pub zip_moved : {A B V Y : Type 0} (h : A → B) (R : A × V → Y → Type 0) (S : B × V → Y → Type 0)
    → ((x : A) (v : V) (y : Y) → R (x, v) y → S (h x, v) y) → (xs : List A) (vs : List V) (ys : List Y)
    → AllZip R (zip xs vs) ys → AllZip S (zip (map h xs) vs) ys
zip_moved h R S moved [] vs [] all = tt
zip_moved h R S moved [] vs (y ∷ ys) all = absurd all
zip_moved h R S moved (x ∷ xs) [] [] all = tt
zip_moved h R S moved (x ∷ xs) [] (y ∷ ys) all = absurd all
zip_moved h R S moved (x ∷ xs) (v ∷ vs) [] all = absurd all
zip_moved h R S moved (x ∷ xs) (v ∷ vs) (y ∷ ys) all = (moved x v y all.0, zip_moved h R S moved xs vs ys all.1)

-- and the other way round
pub zip_back : {A B V Y : Type 0} (h : A → B) (R : A × V → Y → Type 0) (S : B × V → Y → Type 0)
    → ((x : A) (v : V) (y : Y) → S (h x, v) y → R (x, v) y) → (xs : List A) (vs : List V) (ys : List Y)
    → AllZip S (zip (map h xs) vs) ys → AllZip R (zip xs vs) ys
zip_back h R S moved [] vs [] all = tt
zip_back h R S moved [] vs (y ∷ ys) all = absurd all
zip_back h R S moved (x ∷ xs) [] [] all = tt
zip_back h R S moved (x ∷ xs) [] (y ∷ ys) all = absurd all
zip_back h R S moved (x ∷ xs) (v ∷ vs) [] all = absurd all
zip_back h R S moved (x ∷ xs) (v ∷ vs) (y ∷ ys) all = (moved x v y all.0, zip_back h R S moved xs vs ys all.1)
