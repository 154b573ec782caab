-- Lists of states.
use Rattle.std.specs.Prelude.{◌≡◌, ℕ, ◌^◌, ◌<◌, ◌≤◌, ◌⊎◌, ◌↔◌, Bool, true, false, List, [], ◌∷◌, ◌++◌, length, take, All, Contains, fold, slice_set, slice_index_or}
use Rattle.regex_vm.specs.Bits.{members}

-- the flags without those of the states
abbrev pub without : List Bool → List ℕ → List Bool
without flags states = fold (λ left state. slice_set left state false) flags states

-- The flags say of each state whether it is among the first of the states, of which there are as
-- many as flags that are set, each below the room.
pub record IsListed (room : ℕ) (flags : List Bool) (states : List ℕ) (len : ℕ) : Type 0 where
  pub narrow : room ≤ 2 ^ 16
  pub size : length flags ≡ room
  pub places : length states ≡ room
  pub count : members flags ≡ len
  pub within : len ≤ room
  pub below : All (λ q. q < room) (take len states)
  pub told : (q : ℕ) → slice_index_or flags q false ≡ true → Contains (take len states) q

-- The new list has the state: it is the old one, or the old one with the state behind it.
pub record AddsState (state : ℕ) (old new : List ℕ) : Type 0 where
  pub there : Contains new state
  pub after : (new ≡ old) ⊎ (new ≡ old ++ state ∷ [])

-- The new list has the states of the old one, and these.
abbrev pub AddsAll : List ℕ → List ℕ → List ℕ → Type 0
AddsAll states old new = (q : ℕ) → Contains new q ↔ (Contains old q ⊎ Contains states q)

-- The lists have the same states.
abbrev pub HasSame : List ℕ → List ℕ → Type 0
HasSame xs ys = (q : ℕ) → Contains ys q ↔ Contains xs q
