-- What is found in a list, and in its beginnings.
use Rattle.std.proofs.Common.{◌≡◌, ℕ, ◌<◌, zero, suc, Bool, true, false, cond, Some, None, List, [], ◌∷◌, take, find, slice_get, refl, ◌∙◌, ap, arith}

-- an element of a beginning is in the list, before the beginning's end
pub in_take : {X : Type 0} (xs : List X) (n m : ℕ) (y : X) → slice_get (take n xs) m ≡ Some y
    → (m < n) × (slice_get xs m ≡ Some y)
in_take xs zero m y e = absurd cc
in_take [] (suc n) m y e = absurd cc
in_take (x ∷ xs) (suc n) zero y e = (omega arith, e)
in_take (x ∷ xs) (suc n) (suc m) y e =
    let rest = in_take xs n m y e in
    (omega (arith, rest.0), rest.1)

-- an element before an end is in the beginning up to there
pub to_take : {X : Type 0} (xs : List X) (n m : ℕ) (y : X) → m < n → slice_get xs m ≡ Some y
    → slice_get (take n xs) m ≡ Some y
to_take xs zero m y lt e = absurd (omega arith)
to_take [] (suc n) m y lt e = absurd cc
to_take (x ∷ xs) (suc n) zero y lt e = e
to_take (x ∷ xs) (suc n) (suc m) y lt e = to_take xs n m y (omega arith) e

-- where no element passes, none is found
pub none_found : {X : Type 0} (passes : X → Bool) (xs : List X)
    → ((m : ℕ) (y : X) → slice_get xs m ≡ Some y → passes y ≡ false) → find passes xs ≡ None
none_found passes [] h = refl
none_found passes (x ∷ xs) h =
    ap (λ b. cond b (Some x) (find passes xs)) (h zero x refl)
    ∙ none_found passes xs (λ m y e. h (suc m) y e)

-- the first element that passes is found
pub first_found : {X : Type 0} (passes : X → Bool) (xs : List X) (n : ℕ) (x : X)
    → slice_get xs n ≡ Some x → passes x ≡ true
    → ((m : ℕ) (y : X) → m < n → slice_get xs m ≡ Some y → passes y ≡ false)
    → find passes xs ≡ Some x
first_found passes [] n x e holds first = absurd cc
first_found passes (y ∷ ys) zero x e holds first =
    let same : y ≡ x = cc in
    ap (λ b. cond b (Some y) (find passes ys)) (ap passes same ∙ holds) ∙ e
first_found passes (y ∷ ys) (suc n) x e holds first =
    ap (λ b. cond b (Some y) (find passes ys)) (first zero y (omega arith) refl)
    ∙ first_found passes ys n x e holds (λ m z lt at. first (suc m) z (omega arith) at)
