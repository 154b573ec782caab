-- Classes of bytes that an automaton does not distinguish.
use Rattle.std.specs.Prelude.{◌≡◌, ℕ, ◌+◌, ◌<◌, Bool, true, false, List, length, slice_index, slice_index_or}
use Rattle.regex_nfa.specs.States.{next_on}
use Rattle.regex_nfa.specs.Run.{state_of}
use Rattle.regex_nfa.specs.declared.state.Transition.{Transition}
use Rattle.regex_nfa.specs.declared.nfa.Nfa.{Nfa}

-- the flag of a number
abbrev pub flag : List Bool → ℕ → Bool
flag flags k = slice_index_or flags k false

-- There is a cut below the first byte of the transition, and one above the last.
abbrev pub IsCut : List Bool → Transition → Type 0
IsCut cuts transition = (flag cuts transition.start ≡ true)
    × (flag cuts (transition.end + 1) ≡ true)

-- Each old cut is a new one.
abbrev pub KeepsCuts : List Bool → List Bool → Type 0
KeepsCuts old new = (k : ℕ) → flag old k ≡ true → flag new k ≡ true

-- Each state leads on both bytes to the same state, or to none.
abbrev pub AreAlike : Nfa → ℕ → ℕ → Type 0
AreAlike nfa a b =
    (q : ℕ) → next_on nfa.transitions.items (state_of nfa q) a
    ≡ next_on nfa.transitions.items (state_of nfa q) b

-- A byte above which there is no cut is like the next.
abbrev pub SeparatesBytes : Nfa → List Bool → Type 0
SeparatesBytes nfa cuts = (byte : ℕ) → flag cuts (byte + 1) ≡ false → AreAlike nfa byte (byte + 1)

-- Each byte of ASCII has a class, and is like the byte that represents it.
abbrev pub AreClasses : Nfa → List ℕ → List ℕ → Type 0
AreClasses nfa classes bytes =
    (byte : ℕ) → byte < 128 → (slice_index classes byte < length bytes)
    × AreAlike nfa (slice_index bytes (slice_index classes byte)) byte
