-- Marks that are set one after another, in place.
use Rattle.std.proofs.Common.{◌≡◌, ◌∙◌, ◌+◌, ◌++◌, ◌∷◌, [], ◌≤◌, ◌<◌, ℕ, zero, suc, List, Some, ap, arith, drop, get_or, length, map, refl, slice_get, slice_set, subst, sym, take}
use Rattle.std.proofs.Math.Seq.{take-append_seam}
use Rattle.std.specs.List.{AllZip}

-- the list whose first elements are made by f, and the others by g
abbrev pub made_so_far : {A B : Type 0} → (f g : A → B) → List A → ℕ → List B
made_so_far f g xs n = map f (take n xs) ++ drop n (map g xs)

module _ {A B : Type 0} (f g : A → B) where
  pub next_old : (xs : List A) (n : ℕ) (x : A) → slice_get xs n ≡ Some x
      → slice_get (made_so_far f g xs n) n ≡ Some (g x)
  next_old [] n x is = absurd cc
  next_old (y ∷ ys) zero x is = cc
  next_old (y ∷ ys) (suc n) x is = next_old ys n x is

  set_at : (xs : List A) (n : ℕ) (x : A) → slice_get xs n ≡ Some x
      → slice_set (made_so_far f g xs n) n (f x) ≡ made_so_far f g xs (suc n)
  set_at [] n x is = absurd cc
  set_at (y ∷ ys) zero x is = cc
  set_at (y ∷ ys) (suc n) x is = ap (λ rest. f y ∷ rest) (set_at ys n x is)

  pub next_set : (xs : List A) (n : ℕ) (x : A) → slice_get xs n ≡ Some x
      → slice_set (made_so_far f g xs n) n (f x) ≡ made_so_far f g xs (n + 1)
  next_set xs n x is =
      let more : suc n ≡ n + 1 = omega arith in
      set_at xs n x is ∙ ap (made_so_far f g xs) more

  pub all_set : (xs : List A) (n : ℕ) → length xs ≤ n → made_so_far f g xs n ≡ map f xs
  all_set [] zero past = refl
  all_set [] (suc n) past = refl
  all_set (y ∷ ys) zero past = absurd (omega (arith, past))
  all_set (y ∷ ys) (suc n) past = ap (λ rest. f y ∷ rest) (all_set ys n (omega (arith, past)))

module _ {A B : Type 0} (R : A → B → Type 0) where
  zip_at_suc : (xs : List A) (ys : List B) (n : ℕ) (x d : A) (y : B)
      → n < length xs → x ≡ get_or xs n d → n < length ys → AllZip R (take n xs) (take n ys) → R x y
      → AllZip R (take (suc n) xs) (take (suc n) (slice_set ys n y))
  zip_at_suc [] ys n x d y below is within all rel = absurd (omega (arith, below))
  zip_at_suc (a ∷ xs) [] n x d y below is within all rel = absurd (omega (arith, within))
  zip_at_suc (a ∷ xs) (b ∷ ys) zero x d y below is within all rel = (subst (λ z. R z y) is rel, tt)
  zip_at_suc (a ∷ xs) (b ∷ ys) (suc n) x d y below is within all rel =
      (all.0, zip_at_suc xs ys n x d y (omega (arith, below)) is (omega (arith, within)) all.1 rel)

  -- what holds of the elements of two lists so far, and of one more that is set
  pub zip_set : (xs : List A) (ys : List B) (n : ℕ) (x d : A) (y : B)
      → n < length xs → x ≡ get_or xs n d → n < length ys → AllZip R (take n xs) (take n ys) → R x y
      → AllZip R (take (n + 1) xs) (take (n + 1) (slice_set ys n y))
  zip_set xs ys n x d y below is within all rel =
      let more : suc n ≡ n + 1 = omega arith in
      subst (λ k. AllZip R (take k xs) (take k (slice_set ys n y))) more
      (zip_at_suc xs ys n x d y below is within all rel)

-- a list keeps its length where an element is set
pub length_set : {A : Type 0} (xs : List A) (n : ℕ) (x : A) → length (slice_set xs n x) ≡ length xs
length_set [] n x = refl
length_set (y ∷ ys) zero x = refl
length_set (y ∷ ys) (suc n) x = ap suc (length_set ys n x)

-- a list that is put in front is taken back
pub taken_back : {A : Type 0} (front rest : List A) (n : ℕ) → length front ≡ n → take n (front ++ rest) ≡ front
taken_back front rest n is = ap (λ k. take k (front ++ rest)) (sym is) ∙ take-append_seam front rest
