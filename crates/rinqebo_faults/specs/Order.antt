-- The order in which findings are reported.
use Rattle.std.specs.Prelude.{ℕ, ◌-◌, ◌^◌, Option, Some, None}
use Rattle.std.specs.Ordering.{nat_cmp, ordering_then}
use Rattle.std.specs.declared.cmp.Ordering.{Ordering}
use Rattle.rinqebo_report.specs.declared.finding.Finding.{Finding}
use Rattle.rinqebo_report.specs.declared.origin.FileLines.{FileLines}
use Rattle.rinqebo_report.specs.declared.origin.FilePlace.{FilePlace}
use Rattle.rinqebo_report.specs.declared.origin.Range.{Range}

-- the column, if it is known, or else what comes before each column
abbrev pub column_or_none : Option ℕ → ℕ
column_or_none (Some column) = column
column_or_none None = 0

-- the line and the column of a place of which these are known: the start of its range, or its first
-- line and a column there. What has no line comes first
abbrev pub spot_in : Option Range → Option FileLines → Option ℕ → ℕ × ℕ
spot_in (Some range) lines column = (range.start.line, range.start.column)
spot_in None (Some lines) column = (lines.first, column_or_none column)
spot_in None None column = (0, 0)

-- the file, the line and the column of a place; what is in no file comes last
abbrev pub spot_at : Option FilePlace → Option ℕ → ℕ × ℕ × ℕ
spot_at (Some place) column =
    let at = spot_in place.range place.lines column in (place.source, at.0, at.1)
spot_at None column = (2 ^ 64 - 1, 0, 0)

-- the file, the line and the column of a finding
abbrev pub spot_of : Finding → ℕ × ℕ × ℕ
spot_of finding = spot_at finding.place finding.column

-- by the file, then by the line, and then by the column
abbrev pub spot_cmp : ℕ × ℕ × ℕ → ℕ × ℕ × ℕ → Ordering
spot_cmp x y = ordering_then (ordering_then (nat_cmp x.0 y.0) (nat_cmp x.1 y.1)) (nat_cmp x.2 y.2)
