-- The lines that show a definition and an earlier one of the same.
use Rattle.std.specs.Prelude.{◌≡◌, ℕ, Bool, true, false, List, [], ◌∷◌, length, slice_get, Option, None, Some}
use Rattle.std.specs.Str.{chars, trim}
use Rattle.std.specs.Str.Lines.{lines}
use Rattle.rinqebo_faults.specs.Lines.{ShownLine, indent_of, shown_lines}
use Rattle.rinqebo_faults.specs.Meant.{IsFirstDefinition}
use Rattle.rinqebo_faults.specs.TomlLines.{from_one, range_from}
use Rattle.rinqebo_faults.specs.declared.lines.Mark.{Mark}
use Rattle.rinqebo_report.specs.declared.finding.Sign.TheVariants as signs
use Rattle.rinqebo_report.specs.declared.origin.Range.{Range}

-- the range of a line, from 0, without the blanks around it
abbrev pub line_range : List ℕ → ℕ → Range
line_range line place =
    range_from (record { line = from_one place; column = from_one (indent_of line) })
    (length (chars (trim line)))

-- the marks of the line that is first, and of a fault
abbrev pub first_and_fault : Range → Range → List Mark
first_and_fault first fault =
    record { sign = signs.Related; range = first } ∷ record { sign = signs.Fault; range = fault }
    ∷ []

-- a line of a text, or nothing
abbrev pub or_nothing : Option (List ℕ) → List ℕ
or_nothing None = []
or_nothing (Some line) = line

-- the lines of a text that show a range and the line, from 0, that is first, if there is one
abbrev pub lines_with_first : List ℕ → Range → Option ℕ → List ShownLine
lines_with_first text fault None = []
lines_with_first text fault (Some first) =
    shown_lines
    (first_and_fault (line_range (or_nothing (slice_get (lines text) first)) first) fault) text

-- A place is that of the line that first defines the name which a line, at another place, defines a
-- second time. There is none if that line defines it for the first time.
abbrev pub IsEarlier : List (List ℕ) → ℕ → (is_second : Bool) → (name : List ℕ) → Option ℕ
    → Type 0
IsEarlier text place true name found = IsFirstDefinition text place name found
IsEarlier text place false name found = found ≡ None
