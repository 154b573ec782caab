-- Positions in a text: a line from 0, and the units before them on that line.
use Rattle.std.specs.Prelude.{◌≡◌, ◌<◌, ◌==◌, ◌+◌, ◌-◌, ◌⊎◌, ℕ, List, ◌∷◌, ◌++◌, take, slice_index, count_by, sum_by, Bool, if◌then◌else◌, nat_lt, encode_utf8}
use Rattle.std.specs.Char.{len_utf8}
use Rattle.std.specs.List.{after_last}
use Rattle.std.specs.Str.{IsCharBoundary, chars}
use Rattle.nextest_places.specs.declared.spans.position.TextPosition.{TextPosition}
use Rattle.nextest_places.specs.declared.spans.position.ColumnUnit.{ColumnUnit}
use Rattle.nextest_places.specs.declared.spans.position.ColumnUnit.TheVariants.{Byte, Char, Utf16}

-- how many units a character counts
abbrev pub width : ColumnUnit → ℕ → ℕ
width Byte c = len_utf8 c
width Char c = 1
width Utf16 c = if nat_lt c 0x1_0000 then 1 else 2

abbrev pub is_line_feed : ℕ → Bool
is_line_feed c = c == 10

-- the position behind some characters: the line feeds among them, and the units since the last one
unfoldable pub position_behind : ColumnUnit → List ℕ → TextPosition
position_behind unit cs =
    record {
      line = count_by is_line_feed cs;
      column = sum_by (width unit) (after_last is_line_feed cs);
    }

-- the position of a byte of a text
abbrev pub position_of : ColumnUnit → List ℕ → ℕ → TextPosition
position_of unit text byte = position_behind unit (chars (take byte text))

-- the position behind one more character
abbrev pub behind : ColumnUnit → TextPosition → ℕ → TextPosition
behind unit at c =
    if c == 10 then record { line = at.line + 1; column = 0 }
    else record { line = at.line; column = at.column + width unit c }

-- on an earlier line, or earlier on the same one
abbrev pub IsBefore : TextPosition → TextPosition → Type 0
IsBefore a b = (a.line < b.line) ⊎ ((a.line ≡ b.line) × (a.column < b.column))

-- between a carriage return and its line feed
pub record IsInLineEnd (text : List ℕ) (byte : ℕ) : Type 0 where
  pub some : 0 < byte
  pub after : slice_index text (byte - 1) ≡ 13
  pub before : slice_index text byte ≡ 10

-- between two characters or at an end of the text, and not within a line's end
pub record IsPlace (text : List ℕ) (byte : ℕ) : Type 0 where
  pub boundary : IsCharBoundary text byte
  pub whole : ¬ IsInLineEnd text byte

-- the last place that is not behind the position
pub record IsByteAt (unit : ColumnUnit) (text : List ℕ) (position : TextPosition) (byte : ℕ)
    : Type 0 where
  pub place : IsPlace text byte
  pub reached : ¬ IsBefore position (position_of unit text byte)
  pub last : (b : ℕ) → IsPlace text b → byte < b → IsBefore position (position_of unit text b)

-- from one place to the next: over a character, or over a carriage return with its line feed
pub data IsStep (unit : ColumnUnit) : List ℕ → TextPosition → ℕ → TextPosition → Type 0 where
  over_char : {text : List ℕ} {at : TextPosition} (c : ℕ) (rest : List ℕ) → text ≡ encode_utf8 c ++ rest
      → ¬ IsInLineEnd text 1 → IsStep unit text at (len_utf8 c) (behind unit at c)
  over_line_end : {text : List ℕ} {at : TextPosition} (rest : List ℕ) → text ≡ 13 ∷ 10 ∷ rest
      → IsStep unit text at 2 (behind unit (behind unit at 13) 10)
