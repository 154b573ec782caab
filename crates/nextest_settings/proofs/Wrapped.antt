-- What is found in the one list of a wrapper.
use Rattle.std.proofs.Common.{◌≡◌, None, IfSome, ℕ, zero, suc, Bool, true, false, Option, Some, List, [], ◌∷◌, map, get_or, slice_get, refl, ◌&&◌, ◌||◌}
use Rattle.nextest_sources.specs.InputFaults.{Each}

apart : {A : Type 0} {x : A} {xs : List A} → [] ≡ x ∷ xs → ⊥
apart e = absurd cc

-- the one that was found
pub head-found : {R : Type 0} (found : List (Option R)) (d o : Option R) → found ≡ o ∷ [] → get_or found 0 d ≡ o
head-found [] d o e = absurd (apart e)
head-found (f ∷ found) d o e = cc

-- the fact of an element that is in a list seen by f
pub each-there : {A X : Type 0} (P : X → Type 0) (f : A → X) (xs : List A) (k : ℕ) (x : A) → Each P (map f xs)
    → slice_get xs k ≡ Some x → P (f x)
each-there P f [] k x each at = absurd cc
each-there P f (y ∷ ys) zero x each at =
    let same : y ≡ x = cc in
    rw (← same) each.0
each-there P f (y ∷ ys) (suc k) x each at = each-there P f ys k x each.1 at

-- what is in the list of a thing writes it
pub writes-it : (on writes : Bool) → on && writes ≡ true → writes ≡ true
writes-it true writes e = e
writes-it false writes e = absurd cc

pub one-writes : (on writes : Bool) → (on && writes) || false ≡ true → writes ≡ true
one-writes true true e = refl
one-writes true false e = absurd cc
one-writes false writes e = absurd cc

pub if-some : {A : Type 0} (P Q : A → Type 0) (o : Option A) → ((x : A) → P x → Q x) → IfSome o P → IfSome o Q
if-some P Q None all h = tt
if-some P Q (Some x) all h = all x h
