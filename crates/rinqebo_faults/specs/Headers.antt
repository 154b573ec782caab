-- The headers of tables, as TOML writes them.
use Rattle.std.specs.Prelude.{ℕ, ◌==◌, Bool, not, ◌&&◌, ◌||◌, List, [], ◌∷◌, ◌++◌, codes, filter_map, length, if◌then◌else◌}
use Rattle.std.specs.Char.{is_ascii_alphanumeric}
use Rattle.std.specs.List.{list_all, list_any}
use Rattle.std.specs.Str.{chars}
use Rattle.nextest_places.specs.declared.step.Step.{Step}
use Rattle.rinqebo_faults.specs.Shapes.{key_of}

-- a character is one of keys without quotes: a letter, a digit, `-` or `_`
abbrev pub is_bare : ℕ → Bool
is_bare c = is_ascii_alphanumeric c || (c == 45 || c == 95)

-- a character needs single quotes around it: `"` or a backslash
abbrev pub is_special : ℕ → Bool
is_special c = c == 34 || c == 92

-- a key is written without quotes
unfoldable pub is_bare_key : List ℕ → Bool
is_bare_key key = not (length key == 0) && list_all is_bare (chars key)

-- a key as a header has it: in quotes, where it needs some
unfoldable pub header_key : List ℕ → List ℕ
header_key key =
    if is_bare_key key then key
    else if list_any is_special (chars key) then codes "'" ++ (key ++ codes "'")
    else codes "\"" ++ (key ++ codes "\"")

-- keys with a dot before each
abbrev pub dotted_keys : List (List ℕ) → List ℕ
dotted_keys [] = []
dotted_keys (key ∷ keys) = codes "." ++ (header_key key ++ dotted_keys keys)

-- keys with dots between them
unfoldable pub header_of : List (List ℕ) → List ℕ
header_of [] = []
header_of (key ∷ keys) = header_key key ++ dotted_keys keys

-- the keys of a path as a header has them; the items of arrays have the header of their array
abbrev pub header_text : List Step → List ℕ
header_text path = header_of (filter_map key_of path)
