-- Paths as texts, and how two of them are joined.
use Rattle.std.specs.Prelude.{◌==◌, ◌||◌, ◌-◌, ◌++◌, ◌∷◌, ℕ, List, Bool, length, slice_index, if◌then◌else◌}

-- The slash is the character 47.
abbrev pub slash : ℕ
slash = 47

-- A path is absolute if it begins with a slash.
abbrev pub is_absolute : List ℕ → Bool
is_absolute path = slice_index path 0 == slash

-- A path is open if a name can follow it as it is: it is empty, or ends with a slash.
abbrev pub is_open_path : List ℕ → Bool
is_open_path path = length path == 0 || slice_index path (length path - 1) == slash

-- Two paths joined: an absolute second one replaces the first; else a slash is between, unless
-- the first is open.
abbrev pub joined_path : (first second : List ℕ) → List ℕ
joined_path first second =
    if is_absolute second then second
    else if is_open_path first then first ++ second
    else first ++ slash ∷ second
