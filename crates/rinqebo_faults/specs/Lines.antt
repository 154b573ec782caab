-- The lines of a text that show parts of it.
use Rattle.std.specs.Prelude.{ℕ, ◌+◌, ◌-◌, ◌==◌, nat_lt, max, min, Bool, not, ◌&&◌, List, [], ◌∷◌, ◌++◌, flat_map, length, take, Option, None, Some, string_bytes, if◌then◌else◌}
use Rattle.std.specs.Char.{is_whitespace}
use Rattle.std.specs.List.{prefix_len}
use Rattle.std.specs.Option.{option_to_list}
use Rattle.std.specs.Str.{chars}
use Rattle.std.specs.Str.Lines.{lines}
use Rattle.rinqebo_faults.specs.TomlLines.{greatest}
use Rattle.rinqebo_faults.specs.declared.lines.Mark.{Mark}
use Rattle.rinqebo_report.specs.declared.finding.CharSpan.{CharSpan}
use Rattle.rinqebo_report.specs.declared.finding.LinePart.{LinePart}
use Rattle.rinqebo_report.specs.declared.finding.Sign.TheVariants as signs
use Rattle.rinqebo_report.specs.declared.finding.SourceLine.{SourceLine}
use Rattle.rinqebo_report.specs.declared.origin.Range.{Range}

-- how many characters of a line are before the first that is not white space
abbrev pub indent_of : List ℕ → ℕ
indent_of line = prefix_len is_whitespace (chars line)

-- the last line that is shown of a range: its first one, if it has more than three
unfoldable pub last_shown : Range → ℕ
last_shown range =
    if nat_lt (range.end.line - range.start.line) 3 then range.end.line else range.start.line

-- a line shows some of a range
unfoldable pub is_shown : Range → ℕ → Bool
is_shown range number =
    not (nat_lt number range.start.line) && not (nat_lt (last_shown range) number)

-- the characters of a line that lie in a range
unfoldable pub span_in : Range → (number : ℕ) → (line : List ℕ) → CharSpan
span_in range number line =
    record {
      from = if number == range.start.line then range.start.column - 1 else indent_of line;
      to = if number == range.end.line then range.end.column - 1 else length (chars line);
    }

-- the part of a line that a mark is at, if the line shows some of it
abbrev pub part_of : (number : ℕ) → (line : List ℕ) → Mark → List LinePart
part_of number line mark =
    if is_shown mark.range number
    then record { sign = mark.sign; span = span_in mark.range number line } ∷ []
    else []

-- a part without a sign, if it has characters
abbrev pub blank : (from to : ℕ) → List LinePart
blank from to =
    if nat_lt from to
    then record { sign = signs.Blank; span = record { from = from; to = to } } ∷ []
    else []

-- the character behind a part, which has at least one
abbrev pub end_of : LinePart → ℕ
end_of part = max part.span.to (min (part.span.from + 1) greatest)

-- parts behind a character: each with the blank before it, without those that start before the end
-- of an earlier one
abbrev pub parts_from : ℕ → List LinePart → List LinePart
parts_from end [] = []
parts_from end (part ∷ parts) =
    if nat_lt part.span.from end then parts_from end parts
    else blank end part.span.from ++ part ∷ parts_from (end_of part) parts

-- the parts of a line at marks
abbrev pub line_parts : List Mark → (number : ℕ) → (line : List ℕ) → List LinePart
line_parts marks number line = parts_from 0 (flat_map (part_of number line) marks)

-- A line with the parts that are shown of it.
pub record ShownLine : Type 0 where
  pub number : ℕ
  pub text : List ℕ
  pub parts : List LinePart

abbrev pub shown_view : SourceLine → ShownLine
shown_view line =
    record { number = line.number; text = string_bytes line.text; parts = line.parts.items }

-- a line with its parts, if it has some
abbrev pub shown_with : (number : ℕ) → (line : List ℕ) → List LinePart → Option ShownLine
shown_with number line [] = None
shown_with number line (part ∷ parts) =
    Some (record { number = number; text = line; parts = part ∷ parts })

-- the lines that show marks, of those behind a line
abbrev pub shown_behind : List Mark → ℕ → List (List ℕ) → List ShownLine
shown_behind marks number [] = []
shown_behind marks number (line ∷ more) =
    option_to_list (shown_with (number + 1) line (line_parts marks (number + 1) line))
    ++ shown_behind marks (number + 1) more

-- the first three lines of a text that show marks
unfoldable pub shown_lines : List Mark → List ℕ → List ShownLine
shown_lines marks text = take 3 (shown_behind marks 0 (lines text))
