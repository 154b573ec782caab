-- Runs of an automaton over a name, by sets of states.
use Rattle.std.specs.Prelude.{◌≡◌, ℕ, ◌+◌, ◌<◌, ◌≤◌, ◌⊎◌, Bool, true, List, ◌++◌, length, Contains, Some, MatchOption, is_some, vec_len, ◌↔◌, ◌%◌, ◌==◌, if◌then◌else◌}
use Rattle.std.specs.Bool.{MatchBool}
use Rattle.regex_vm.specs.Found.{first_match}
use Rattle.regex_nfa.specs.States.{next_on}
use Rattle.regex_nfa.specs.Run.{state_of}
use Rattle.regex_nfa.specs.Paths.{EmptyEdge, Accepts}
use Rattle.filter_engine.specs.StateLists.{AddsState}
use Rattle.regex_nfa.specs.declared.nfa.Nfa.{Nfa}
use Rattle.regex_nfa.specs.declared.state.State.TheVariants.{Match}

-- whether the automaton finds a match that starts somewhere in the name
unfoldable pub finds : Nfa → List ℕ → Bool
finds nfa name = is_some (first_match nfa name (length name) 0 (length name))

-- the one list at even positions, and the other at odd ones
abbrev pub in_turn : ℕ → List ℕ → List ℕ → List ℕ
in_turn at even odd = if at % 2 == 0 then even else odd

-- Each of these is a state of the automaton.
abbrev pub AreStates : Nfa → List ℕ → Type 0
AreStates nfa states = (q : ℕ) → Contains states q → q < vec_len nfa.states

-- These are the states, and the state in which the automaton starts.
abbrev pub HasStart : Nfa → List ℕ → List ℕ → Type 0
HasStart nfa states started = (q : ℕ) → Contains started q ↔ (Contains states q ⊎ (nfa.start ≡ q))

-- The new states are the old ones, and perhaps more behind them.
abbrev pub Extends : List ℕ → List ℕ → Type 0
Extends old new = (added : List ℕ) × (new ≡ old ++ added)

-- The state is one of these, or edges that read no byte lead there from one of them.
pub data Reached (nfa : Nfa) (name : List ℕ) (at : ℕ) (states : List ℕ) : ℕ → Type 0 where
  among : (q : ℕ) → Contains states q → Reached nfa name at states q
  behind : (q r : ℕ) → Reached nfa name at states q → EmptyEdge nfa name at q r
      → Reached nfa name at states r

module _ (nfa : Nfa) (name : List ℕ) where
  -- Some path leads from the state at this position of the name to the end of a match.
  abbrev pub Succeeds : ℕ → ℕ → Type 0
  Succeeds at q = (at ≤ length name) × ((end : ℕ) × Accepts nfa name (length name) end q at)

  -- One of the states succeeds.
  abbrev pub SomeSucceeds : ℕ → List ℕ → Type 0
  SomeSucceeds at states = (q : ℕ) × Contains states q × Succeeds at q

  -- A match is found from one of the states on, or from the start of the automaton.
  abbrev pub Begins : ℕ → List ℕ → Type 0
  Begins at states = SomeSucceeds at states ⊎ Succeeds at nfa.start

  -- The step says that a match is found, or leaves the states from which it still can be.
  abbrev pub Steps : ℕ → List ℕ → List ℕ → Bool → Type 0
  Steps at states next matched =
      MatchBool matched (Begins at states) (Begins at states ↔ SomeSucceeds (at + 1) next)

  -- A match starts at this position or further on.
  abbrev pub StartsFrom : ℕ → Type 0
  StartsFrom at = (s : ℕ) × (at ≤ s) × Succeeds s nfa.start

  -- The search has come to this position: what is left to find begins in one of the states, or starts
  -- from here on.
  pub record IsSearched (at : ℕ) (states : List ℕ) : Type 0 where
    pub within : AreStates nfa states
    pub left : (finds nfa name ≡ true) ↔ (SomeSucceeds at states ⊎ StartsFrom at)

  -- The new states are the old ones and those to which the state leads with no byte.
  pub record AddsTargets (at q : ℕ) (old new : List ℕ) : Type 0 where
    pub kept : Extends old new
    pub added : (r : ℕ) → Contains new r → Contains old r ⊎ EmptyEdge nfa name at q r
    pub all : (r : ℕ) → EmptyEdge nfa name at q r → Contains new r

  -- None of the states ends a match, and each leads with no byte only to one of them.
  pub record IsClosed (at : ℕ) (states : List ℕ) : Type 0 where
    pub unmatched : (q : ℕ) → Contains states q → state_of nfa q ≡ Match → ⊥
    pub targets : (q r : ℕ) → Contains states q → EmptyEdge nfa name at q r → Contains states r

  -- The new states are the old ones closed, and each is reached from an old one.
  pub record IsClosing (at : ℕ) (old new : List ℕ) : Type 0 where
    pub kept : Extends old new
    pub reached : (q : ℕ) → Contains new q → Reached nfa name at old q
    pub closed : IsClosed at new

  -- A state that ends a match is reached from an old state, or the new ones are the old ones closed.
  abbrev pub Closes : ℕ → List ℕ → List ℕ → Bool → Type 0
  Closes at old new matched =
      MatchBool matched ((q : ℕ) × Reached nfa name at old q × (state_of nfa q ≡ Match))
      (IsClosing at old new)

-- The new states are the old ones and that to which the state leads on the byte, if there is one.
abbrev pub ReadsState : Nfa → ℕ → ℕ → List ℕ → List ℕ → Type 0
ReadsState nfa byte q old new =
    MatchOption (next_on nfa.transitions.items (state_of nfa q) byte) (new ≡ old)
    (λ r. AddsState r old new)

-- The new states are the old ones and those to which some state leads on the byte.
pub record Reads (nfa : Nfa) (byte : ℕ) (states old new : List ℕ) : Type 0 where
  pub added : (r : ℕ) → Contains new r → Contains old r
      ⊎ ((q : ℕ) × Contains states q
      × (next_on nfa.transitions.items (state_of nfa q) byte ≡ Some r))
  pub all : (q r : ℕ) → Contains states q
      → next_on nfa.transitions.items (state_of nfa q) byte ≡ Some r → Contains new r
  pub kept : Extends old new
