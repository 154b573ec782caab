-- What the content of a string begins with.
use Rattle.std.specs.Prelude.{◌≡◌, ◌<◌, ◌≤◌, ◌==◌, ◌&&◌, ◌||◌, ◌⊎◌, not, ℕ, Bool, true, false, List, [], ◌++◌, drop, length, Some, encode_utf8}
use Rattle.std.specs.List.{prefix_len}
use Rattle.std.specs.Str.{IsUtf8}
use Rattle.toml_parser.specs.Lexical.{apostrophe, first, quote}
use Rattle.toml_parser.specs.Strings.{escape}
use Rattle.nextest_places.specs.Spans.Offsets.{ReadsOn, is_gap}

abbrev pub IsDelim : ℕ → Type 0
IsDelim delim = (delim ≡ quote) ⊎ (delim ≡ apostrophe)

-- the content writes something
abbrev pub IsContent : ℕ → Bool → List ℕ → Type 0
IsContent delim multi content = (bytes : List ℕ) × ReadsOn delim multi content bytes

-- the content begins with the delimiters that close the string
abbrev pub closes : ℕ → Bool → List ℕ → Bool
closes delim multi content =
    first content == delim && (not multi || prefix_len (λ c. c == delim) content == 3)

pub record IsClosing (delim : ℕ) (multi : Bool) (content bytes : List ℕ) : Type 0 where
  pub nothing : bytes ≡ []
  pub shown : is_gap delim multi content ≡ false

-- a gap writes nothing, and any other piece one character
abbrev pub Writes : Bool → ℕ → Bool → List ℕ → List ℕ → Type 0
Writes true delim multi bytes rest = ReadsOn delim multi rest bytes
Writes false delim multi bytes rest =
    (c : ℕ) × (more : List ℕ) × (bytes ≡ encode_utf8 c ++ more) × ReadsOn delim multi rest more

-- from a content that writes these bytes, a piece leads to the rest
pub record IsPiece (delim : ℕ) (multi : Bool) (content bytes : List ℕ) (gap : Bool)
    (rest : List ℕ) : Type 0 where
  pub len : ℕ
  pub some : 0 < len
  pub within : len ≤ length content
  pub behind : rest ≡ drop len content
  pub utf8 : IsUtf8 rest
  pub gap_is : is_gap delim multi content ≡ gap
  pub writes : Writes gap delim multi bytes rest

-- the text behind a backslash goes on with an escape
abbrev pub IsEscape : Bool → List ℕ → Type 0
IsEscape multi text = (p : List ℕ × List ℕ) × (escape multi text ≡ Some p)
