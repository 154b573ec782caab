-- Lines that are not TOML: what they define, and where it is first defined.
use Rattle.std.specs.Prelude.{◌≡◌, ◌≢◌, ◌<◌, ◌==◌, ℕ, nat_eq, Bool, true, false, not, ◌&&◌, List, ◌++◌, codes, drop, slice_get, Option, None, Some, if◌then◌else◌}
use Rattle.std.specs.List.{before_first, list_any, starts_with}
use Rattle.std.specs.Str.{bytes_eq, chars, encode_utf8_all, trim}

-- the reader of TOML says that a line defines what is defined before it
abbrev pub is_second : List ℕ → Bool
is_second reason = bytes_eq reason (codes "duplicate key")

-- what is expected in a line that is not TOML for a reason, where the reader does not say so
unfoldable pub own_words : List ℕ → Option (List ℕ)
own_words reason =
    if bytes_eq reason (codes "duplicate key") then Some (codes "one definition")
    else if bytes_eq reason (codes "invalid escape sequence")
    then Some (codes "an escape of TOML, as `\\\\` for a backslash")
    else if bytes_eq reason (codes "invalid string")
    then Some (codes "a closing quote on the same line")
    else None

-- what is expected, as the reader of TOML says in its reason
abbrev pub IsExpectedBy : List ℕ → Option (List ℕ) → Type 0
IsExpectedBy reason None =
    (wrong expected : List ℕ) → reason ≢ wrong ++ (codes ", expected " ++ expected)
IsExpectedBy reason (Some expected) =
    (wrong : List ℕ) × (reason ≡ wrong ++ (codes ", expected " ++ expected))

-- what is expected: some words, or else what the reader says
abbrev pub IsExpected : Option (List ℕ) → List ℕ → Option (List ℕ) → Type 0
IsExpected None reason found = IsExpectedBy reason found
IsExpected (Some words) reason found = found ≡ Some words

-- a text without its first characters, so many of them
abbrev pub from_column : ℕ → List ℕ → List ℕ
from_column column line = encode_utf8_all (drop column (chars line))

-- a text without blanks around it begins a table
abbrev pub is_header : List ℕ → Bool
is_header text = starts_with nat_eq text (codes "[")

-- a character is an equals sign
abbrev pub is_equals : ℕ → Bool
is_equals b = b == 61

-- what is before the first equals sign of a text, or all of it, without the blanks around it
abbrev pub key_of : List ℕ → List ℕ
key_of text = trim (before_first is_equals text)

-- what a line defines, of which so many characters are before a fault: a header with its brackets,
-- or the key at the fault
unfoldable pub defined : List ℕ → ℕ → List ℕ
defined line column =
    if is_header (trim line) then trim line else key_of (from_column column line)

-- a line without the blanks around it has an equals sign behind this key
unfoldable pub has_key : List ℕ → List ℕ → Bool
has_key line key = list_any is_equals line && bytes_eq (key_of line) key

-- a line without the blanks around it defines a header or a key
unfoldable pub defines : List ℕ → List ℕ → Bool
defines line name =
    if is_header name then bytes_eq line name else not (is_header line) && has_key line name

-- a place, or else another one
abbrev pub or_here : Option ℕ → Option ℕ → Option ℕ
or_here None here = here
or_here (Some first) here = Some first

-- the place of the line that first defines a header or a key, of the one before a line and that of
-- the line itself: a line that begins a table ends the one before
abbrev pub first_behind : Option ℕ → ℕ → (line name : List ℕ) → Option ℕ
first_behind first place line name =
    if is_header line && not (is_header name) then None
    else or_here first (if defines line name then Some place else None)

-- A line of a text, among those before another one, defines a header or a key. A key is defined in
-- the same table: no line from there on begins one.
pub record IsDefinition (text : List (List ℕ)) (end : ℕ) (name : List ℕ) (place : ℕ) : Type 0 where
  pub before : place < end
  pub line : List ℕ
  pub is : slice_get text place ≡ Some line
  pub here : defines (trim line) name ≡ true
  pub same_table : is_header name ≡ false → (other : ℕ) (behind : List ℕ) → place < other
      → other < end → slice_get text other ≡ Some behind → is_header (trim behind) ≡ false

-- The place is that of the first such line, if there is one.
abbrev pub IsFirstDefinition : List (List ℕ) → ℕ → List ℕ → Option ℕ → Type 0
IsFirstDefinition text end name None = (place : ℕ) → ¬ IsDefinition text end name place
IsFirstDefinition text end name (Some first) =
    IsDefinition text end name first
    × ((place : ℕ) → place < first → ¬ IsDefinition text end name place)
