-- Lines of texts that are not TOML: where they are at fault, and which ones are shown.
use Rattle.std.specs.Prelude.{ℕ, ◌+◌, ◌-◌, ◌^◌, ◌==◌, min, List, [], ◌++◌, codes, decimal, fold, length, slice_get, Option, None, Some, option_map, if◌then◌else◌}
use Rattle.std.specs.Str.Lines.{lines}
use Rattle.nextest_places.specs.declared.spans.position.TextPosition.{TextPosition}
use Rattle.rinqebo_report.specs.declared.origin.Position.{Position}
use Rattle.rinqebo_report.specs.declared.origin.Range.{Range}

-- a text, and a line behind it: a space between them, if the text has something
unfoldable pub with_line : List ℕ → List ℕ → List ℕ
with_line text line = if length text == 0 then line else text ++ (codes " " ++ line)

-- the lines of a text on one line
unfoldable pub on_one_line : List ℕ → List ℕ
on_one_line text = fold with_line [] (lines text)

-- the greatest number that a report counts to
abbrev pub greatest : ℕ
greatest = 2 ^ 64 - 1

-- a line or a column as users count it, from 1, of one that is counted from 0
unfoldable pub from_one : ℕ → ℕ
from_one count = min (count + 1) greatest

-- the line of a text, from 0, if there is one
abbrev pub line_at : Option (List ℕ) → ℕ → Option (List ℕ)
line_at None line = None
line_at (Some text) line = slice_get (lines text) line

-- the range of some characters of a line from a position on
abbrev pub range_from : Position → ℕ → Range
range_from from len =
    record {
      start = from;
      end = record { line = from.line; column = min (from.column + len) greatest };
    }

-- a position as users count it, of one that is counted from 0
abbrev pub start_of : TextPosition → Position
start_of position =
    record { line = from_one position.line; column = from_one position.column }

-- the note that names the line, from 0, that first defines what another one does
abbrev pub first_note : Option ℕ → Option (List ℕ)
first_note first =
    option_map (λ line. codes "it is first defined in line " ++ decimal (from_one line)) first
