-- What a writer holds after a write that failed.
use Rattle.std.specs.Prelude.{◌≡◌, ◌<◌, ◌++◌, ℕ, List, length, Option}
use Rattle.std.specs.Io.KnownBytes.{Appends}

-- Known bytes grew by a beginning of a text, and not by all of it.
abbrev pub AppendsBeginning : Option (List ℕ) → Option (List ℕ) → List ℕ → Type 0
AppendsBeginning old new text =
    (part rest : List ℕ) × (text ≡ part ++ rest) × (0 < length rest) × Appends old new part

-- Known bytes grew by a prefix of a text, which may be all of it.
abbrev pub AppendsPrefix : Option (List ℕ) → Option (List ℕ) → List ℕ → Type 0
AppendsPrefix old new text =
    (part rest : List ℕ) × (text ≡ part ++ rest) × Appends old new part
