-- Positions in texts, and the parts of refused texts, as reports have them.
use Rattle.std.specs.Prelude.{◌≡◌, ℕ, ◌+◌, ◌==◌, nat_le, nat_lt, min, Bool, ◌||◌, List, count_by, fold, slice_get, take, Some, string_bytes, if◌then◌else◌}
use Rattle.std.specs.Str.{chars}
use Rattle.nextest_places.specs.Spans.Offsets.{AreOffsets}
use Rattle.rinqebo_report.specs.declared.finding.CharSpan.{CharSpan}
use Rattle.rinqebo_report.specs.declared.finding.RefusedExpression.{RefusedExpression}
use Rattle.rinqebo_report.specs.declared.origin.Position.{Position}
use Rattle.rinqebo_report.specs.declared.origin.Range.{Range}
use Rattle.rinqebo_faults.specs.TomlLines.{greatest}

-- a byte is the first one of a character
abbrev pub starts_character : ℕ → Bool
starts_character b = nat_lt b 128 || nat_le 192 b

-- how many characters of a text start before a byte
unfoldable pub characters_before : List ℕ → ℕ → ℕ
characters_before text byte = count_by starts_character (take byte text)

-- the characters of a text between two bytes
abbrev pub char_span : List ℕ → (start end : ℕ) → CharSpan
char_span text start end =
    record { from = characters_before text start; to = characters_before text end }

-- An expression is a text, and the part of it between two bytes is at fault.
pub record IsExpression (text : List ℕ) (start end : ℕ) (expression : RefusedExpression) :
    Type 0 where
  pub written : string_bytes expression.text ≡ text
  pub part : expression.span ≡ Some (char_span text start end)

-- the position behind a character: an end of line begins the next line
abbrev pub behind_char : Position → ℕ → Position
behind_char position c =
    if c == 10 then record { line = min (position.line + 1) greatest; column = 1 }
    else record { line = position.line; column = min (position.column + 1) greatest }

-- the position behind a text that starts at a position
unfoldable pub position_behind : Position → List ℕ → Position
position_behind start text = fold behind_char start (chars text)

-- A token that starts at a position writes the character of its string at a place at another
-- position: behind its text up to the byte where it writes that.
pub record IsWrittenAt (start : Position) (token offsets : List ℕ) (place : ℕ) (at : Position) :
    Type 0 where
  pub offset : ℕ
  pub is : slice_get offsets place ≡ Some offset
  pub behind : at ≡ position_behind start (take offset token)

-- A range is the one in which a token that starts at a position writes some characters of its
-- string.
pub record IsRangeIn (start : Position) (token : List ℕ) (span : CharSpan) (range : Range) :
    Type 0 where
  pub offsets : List ℕ
  pub are : AreOffsets token offsets
  pub first : IsWrittenAt start token offsets span.from range.start
  pub last : IsWrittenAt start token offsets span.to range.end
