-- Lines of pages and of GitHub's commands, whatever texts are on them.
use Rattle.std.specs.Prelude.{◌≡◌, ◌≢◌, ◌≤◌, ◌==◌, ◌⊎◌, ℕ, Bool, true, false, List, [], ◌∷◌, ◌++◌, count_by, encode_utf8, flat_map}
use Rattle.std.specs.Char.{is_control}
use Rattle.std.specs.List.{AllByRecursion}
use Rattle.rinqebo_report.specs.Pieces.{Run, styled, repeated, numbered, ending}
use Rattle.rinqebo_report.specs.declared.piece.Colour.{Colour}
use Rattle.rinqebo_report.specs.declared.piece.Colour.TheVariants as colours

abbrev pub line_feed : ℕ
line_feed = 10

abbrev pub carriage_return : ℕ
carriage_return = 13

-- the character that begins an escape of a terminal
abbrev pub escape : ℕ
escape = 27

abbrev pub comma : ℕ
comma = 44

abbrev pub colon : ℕ
colon = 58

abbrev pub delete : ℕ
delete = 127

-- a text has no such byte
abbrev pub HasNo : ℕ → List ℕ → Type 0
HasNo byte text = AllByRecursion (λ b. b ≢ byte) text

-- how many line feeds a text has
abbrev pub line_feeds : List ℕ → ℕ
line_feeds text = count_by (λ byte. byte == line_feed) text

-- A text is one line: a line feed ends it, and before it is no line feed and no carriage return.
pub record IsOneLine (text : List ℕ) : Type 0 where
  pub line : List ℕ
  pub ends : text ≡ line ++ line_feed ∷ []
  pub no_feed : HasNo line_feed line
  pub no_return : HasNo carriage_return line

-- whether a piece ends a line
abbrev pub ends_line : Run → Bool
ends_line (styled style text) = false
ends_line (repeated c count) = false
ends_line (numbered n) = false
ends_line ending = true

-- how many lines pieces end
abbrev pub line_ends : List Run → ℕ
line_ends runs = count_by ends_line runs

-- A text is written in characters of a kind: it is their UTF-8.
pub record IsWrittenIn (kind : ℕ → Type 0) (text : List ℕ) : Type 0 where
  pub characters : List ℕ
  pub are : AllByRecursion kind characters
  pub spell : text ≡ flat_map encode_utf8 characters

-- a character of a text on a page: no control character, but with colours the escapes of styles
abbrev pub IsTextCharacter : Colour → ℕ → Type 0
IsTextCharacter colours.Plain c = is_control c ≡ false
IsTextCharacter colours.Coloured c = (c ≡ escape) ⊎ (is_control c ≡ false)

-- a character of a page: one of a text on it, or the line feed that ends a line
abbrev pub IsPageCharacter : Colour → ℕ → Type 0
IsPageCharacter tint c = (c ≡ line_feed) ⊎ IsTextCharacter tint c

-- a byte of a page without colours: a line feed, or neither below a blank nor a delete
abbrev pub IsPlainByte : ℕ → Type 0
IsPlainByte byte = (byte ≡ line_feed) ⊎ ((32 ≤ byte) × (byte ≢ delete))
