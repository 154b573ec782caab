-- Elements of lists that grow.
use Rattle.std.proofs.Common.{◌≡◌, ◌⊎◌, ◌<◌, ℕ, zero, suc, ◌+◌, List, [], ◌∷◌, ◌++◌, length, set, drop, get_or, Some, refl, sym, ap, ◌∙◌, arith, length-append, inl, inr}
use Rattle.std.specs.List.{slice_get}
use Rattle.std.proofs.lemmas.Option.{none-some, same_Some}

pub same_head : {A : Type 0} (x y : A) (xs ys : List A) → x ∷ xs ≡ y ∷ ys → x ≡ y
same_head x y xs ys e = ap (λ l. get_or l 0 x) e

pub same_tail : {A : Type 0} (x y : A) (xs ys : List A) → x ∷ xs ≡ y ∷ ys → xs ≡ ys
same_tail x y xs ys e = ap (λ l. drop 1 l) e

-- ---- an element more

pub at_pushed : {A : Type 0} (xs : List A) (y : A) (i : ℕ) → i < length xs → slice_get (xs ++ y ∷ []) i ≡ slice_get xs i
at_pushed [] y i less = absurd (omega (arith, less))
at_pushed (x ∷ xs) y zero less = refl
at_pushed (x ∷ xs) y (suc i) less = at_pushed xs y i (omega (arith, less))

pub at_seam : {A : Type 0} (xs : List A) (y : A) → slice_get (xs ++ y ∷ []) (length xs) ≡ Some y
at_seam [] y = refl
at_seam (x ∷ xs) y = at_seam xs y

pub at_cases : {A : Type 0} (xs : List A) (y : A) (i : ℕ) (z : A) → slice_get (xs ++ y ∷ []) i ≡ Some z
    → (slice_get xs i ≡ Some z) ⊎ ((i ≡ length xs) × (z ≡ y))
at_cases [] y zero z e = inr (refl, sym (same_Some y z e))
at_cases [] y (suc i) z e = absurd (none-some z e)
at_cases (x ∷ xs) y zero z e = inl e
at_cases (x ∷ xs) y (suc i) z e =
    elim (at_cases xs y i z e) [
      | inl is ↦ inl is
      | inr is ↦ inr (ap suc is.0, is.1)
    ]

-- ---- another element

pub at_set : {A : Type 0} (xs : List A) (k : ℕ) (y : A) → k < length xs → slice_get (set xs k y) k ≡ Some y
at_set [] k y less = absurd (omega (arith, less))
at_set (x ∷ xs) zero y less = refl
at_set (x ∷ xs) (suc k) y less = at_set xs k y (omega (arith, less))

pub at_other : {A : Type 0} (xs : List A) (k i : ℕ) (y : A) → ¬ (i ≡ k) → slice_get (set xs k y) i ≡ slice_get xs i
at_other [] k i y isnt = refl
at_other (x ∷ xs) zero zero y isnt = absurd (isnt refl)
at_other (x ∷ xs) zero (suc i) y isnt = refl
at_other (x ∷ xs) (suc k) zero y isnt = refl
at_other (x ∷ xs) (suc k) (suc i) y isnt = at_other xs k i y (λ e. isnt (ap suc e))

pub set_cases : {A : Type 0} (xs : List A) (k : ℕ) (y : A) (i : ℕ) (z : A) → slice_get (set xs k y) i ≡ Some z
    → ((¬ (i ≡ k)) × (slice_get xs i ≡ Some z)) ⊎ ((i ≡ k) × (z ≡ y))
set_cases [] k y i z e = absurd (none-some z e)
set_cases (x ∷ xs) zero y zero z e = inr (refl, sym (same_Some y z e))
set_cases (x ∷ xs) zero y (suc i) z e = inl (λ is. absurd (omega (arith, is)), e)
set_cases (x ∷ xs) (suc k) y zero z e = inl (λ is. absurd (omega (arith, is)), e)
set_cases (x ∷ xs) (suc k) y (suc i) z e =
    elim (set_cases xs k y i z e) [
      | inl is ↦ inl (λ same. is.0 (omega (arith, same)), is.1)
      | inr is ↦ inr (ap suc is.0, is.1)
    ]

pub set_length : {A : Type 0} (xs : List A) (k : ℕ) (y : A) → length (set xs k y) ≡ length xs
set_length [] k y = refl
set_length (x ∷ xs) zero y = refl
set_length (x ∷ xs) (suc k) y = ap suc (set_length xs k y)

-- ---- the last element

pub split_last : {A : Type 0} (xs front behind : List A) (y z : A) → xs ++ y ∷ [] ≡ front ++ z ∷ behind
    → ((xs ≡ front) × (y ≡ z)) ⊎ ((b : List A) × (xs ≡ front ++ z ∷ b))
split_last [] [] behind y z e = inl (refl, same_head y z [] behind e)
split_last [] (f ∷ front) behind y z e =
    let none : [] ≡ front ++ z ∷ behind = same_tail y f [] (front ++ z ∷ behind) e in
    let size : 0 ≡ length front + suc (length behind) = ap length none ∙ length-append front (z ∷ behind) in
    absurd (omega (arith, size))
split_last (x ∷ xs) [] behind y z e = inr (xs, ap (λ h. h ∷ xs) (same_head x z (xs ++ y ∷ []) behind e))
split_last (x ∷ xs) (f ∷ front) behind y z e =
    let first : x ≡ f = same_head x f (xs ++ y ∷ []) (front ++ z ∷ behind) e in
    elim (split_last xs front behind y z (same_tail x f (xs ++ y ∷ []) (front ++ z ∷ behind) e)) [
      | inl is ↦ inl (ap (λ h. h ∷ xs) first ∙ ap (λ t. f ∷ t) is.0, is.1)
      | inr is ↦ inr (is.0, ap (λ h. h ∷ xs) first ∙ ap (λ t. f ∷ t) is.1)
    ]

pub last_cases : {A : Type 0} (xs : List A) → (xs ≡ []) ⊎ ((front : List A) × (y : A) × (xs ≡ front ++ y ∷ []))
last_cases [] = inl refl
last_cases (x ∷ xs) =
    elim (last_cases xs) [
      | inl is ↦ inr ([], x, ap (λ t. x ∷ t) is)
      | inr is ↦ inr (x ∷ is.0, is.1, ap (λ t. x ∷ t) is.2)
    ]
