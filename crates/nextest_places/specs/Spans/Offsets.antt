-- Where the token of a string writes each character that the string has.
use Rattle.std.specs.Prelude.{◌≡◌, ◌<◌, ◌+◌, ◌==◌, ◌&&◌, if◌then◌else◌, ℕ, Bool, true, false, List, [], drop, length, slice_index, Some, encode_utf8_all}
use Rattle.std.specs.List.Sorted.{IsStrictlyIncreasing}
use Rattle.toml_parser.specs.Lexical.{backslash, first, quote, skip_ws, starts_newline}
use Rattle.toml_parser.specs.Strings.{body, quoted, starts_string, trim_newline}

-- three delimiters open a string of several lines
abbrev pub is_multi : List ℕ → Bool
is_multi token = slice_index token 1 == first token && slice_index token 2 == first token

-- the token is one string of TOML and nothing more, which has these characters
pub record Denotes (token cs : List ℕ) : Type 0 where
  pub opens : starts_string token ≡ true
  pub whole : quoted token ≡ Some (encode_utf8_all cs, [])

abbrev pub IsString : List ℕ → Type 0
IsString token = (cs : List ℕ) × Denotes token cs

-- read up to the closing delimiter, behind which nothing is left, a content writes these bytes
pub record ReadsOn (delim : ℕ) (multi : Bool) (content bytes : List ℕ) : Type 0 where
  pub pieces : ℕ
  pub reads : body delim multi pieces content ≡ Some (bytes, [])

-- a content begins with an escape
abbrev pub starts_escape : ℕ → List ℕ → Bool
starts_escape delim content = first content == backslash && delim == quote

-- behind a backslash, the text leaves out the end of its line
abbrev pub cuts_line : Bool → List ℕ → Bool
cuts_line multi text = multi && starts_newline (skip_ws text)

-- a content begins with a backslash and the white space that it leaves out
abbrev pub is_gap : ℕ → Bool → List ℕ → Bool
is_gap delim multi content = starts_escape delim content && cuts_line multi (drop 1 content)

-- bytes of a token of which the k-th is the first that writes the characters from the k-th on
pub record AreWritten (token cs offsets : List ℕ) : Type 0 where
  pub rise : IsStrictlyIncreasing offsets
  pub reads : (k : ℕ) → k < length offsets
      → ReadsOn (first token) (is_multi token) (drop (slice_index offsets k) token)
      (encode_utf8_all (drop k cs))
  pub shown : (k : ℕ) → k < length offsets
      → is_gap (first token) (is_multi token) (drop (slice_index offsets k) token) ≡ false

-- the bytes of a token at which its characters are written, and last that of its closing delimiter
pub record AreOffsets (token offsets : List ℕ) : Type 0 where
  pub cs : List ℕ
  pub denotes : Denotes token cs
  pub count : length offsets ≡ length cs + 1
  pub written : AreWritten token cs offsets

-- the text between the opening delimiter and the end of the token
abbrev pub content_of : List ℕ → List ℕ
content_of token = if is_multi token then trim_newline (drop 3 token) else drop 1 token
