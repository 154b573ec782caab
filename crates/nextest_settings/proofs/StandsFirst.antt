use Rattle.std.proofs.Common.{◌≡◌, ℕ, ◌<◌, zero, suc, Bool, true, false, Option, Some, None, IfSome, List, [], ◌∷◌, refl, slice_get, arith, cond, find}
use Rattle.nextest_settings.specs.Deciding.{StandsFirst}

module _ {X : Type 0} (passes : X → Bool) where
  below : (x : X) (xs : List X) (n : ℕ) → passes x ≡ false
      → ((m : ℕ) (y : X) → m < n → slice_get xs m ≡ Some y → passes y ≡ false)
      → (m : ℕ) (z : X) → m < suc n → slice_get (x ∷ xs) m ≡ Some z → passes z ≡ false
  below x xs n fails least zero z lt e =
      let same : x ≡ z = cc in
      rw (← same) fails
  below x xs n fails least (suc m) z lt e = least m z (omega arith) e

  further : (x : X) (xs : List X) → passes x ≡ false → (y : X) → StandsFirst passes xs y → StandsFirst passes (x ∷ xs) y
  further x xs fails y h = (suc h.0, h.1, h.2, below x xs h.0 fails h.3)

  -- by the head's answer
  found : (x : X) (xs : List X) (b : Bool) → passes x ≡ b → IfSome (find passes xs) (StandsFirst passes xs)
      → IfSome (cond b (Some x) (find passes xs)) (StandsFirst passes (x ∷ xs))
  found x xs true is rest = (0, refl, is, λ m z lt e. absurd (omega arith))
  found x xs false is rest = later (find passes xs) rest where
    later : (o : Option X) → IfSome o (StandsFirst passes xs) → IfSome o (StandsFirst passes (x ∷ xs))
    later None h = tt
    later (Some y) h = further x xs is y h

  pub find-least : (xs : List X) → IfSome (find passes xs) (StandsFirst passes xs)
  find-least [] = tt
  find-least (x ∷ xs) = found x xs (passes x) refl (find-least xs)

  head-fails : (x : X) (xs : List X) (b : Bool) → passes x ≡ b → cond b (Some x) (find passes xs) ≡ None
      → (b ≡ false) × (find passes xs ≡ None)
  head-fails x xs true is none = absurd cc
  head-fails x xs false is none = (refl, none)

  pub find-none : (xs : List X) (n : ℕ) (y : X) → find passes xs ≡ None → slice_get xs n ≡ Some y → passes y ≡ false
  find-none [] n y none at = absurd cc
  find-none (x ∷ xs) zero y none at =
      let same : x ≡ y = cc in
      rw (← same) ((head-fails x xs (passes x) refl none).0)
  find-none (x ∷ xs) (suc n) y none at = find-none xs n y ((head-fails x xs (passes x) refl none).1) at
