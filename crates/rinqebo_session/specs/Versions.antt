-- The version of the library, as a text and as a number.
use Rattle.std.specs.Prelude.{◌++◌, ◌∷◌, ◌+◌, ◌*◌, ℕ, List}
use Rattle.std.specs.Fmt.{decimal}

-- the text of a version: its three numbers, with dots between them
abbrev pub version_text : ℕ → ℕ → ℕ → List ℕ
version_text major minor patch = decimal major ++ 46 ∷ (decimal minor ++ 46 ∷ decimal patch)

-- the number of a version: a later one has a higher number, where minor and patch stay below a
-- thousand
abbrev pub version_number : ℕ → ℕ → ℕ → ℕ
version_number major minor patch = major * 1000000 + minor * 1000 + patch
