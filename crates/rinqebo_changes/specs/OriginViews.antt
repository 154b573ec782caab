-- What origins of one side are, without how they are kept.
use Rattle.std.specs.Prelude.{ℕ, List, Option, option_map, string_bytes}
use Rattle.rinqebo_report.specs.declared.origin.FileLines.{FileLines}
use Rattle.rinqebo_report.specs.declared.origin.FilePlace.{FilePlace}
use Rattle.rinqebo_report.specs.declared.origin.Origin.{Origin}
use Rattle.rinqebo_report.specs.declared.origin.Origin.TheVariants as origins
use Rattle.rinqebo_report.specs.declared.origin.Part.{Part}
use Rattle.rinqebo_report.specs.declared.origin.Position.{Position}
use Rattle.rinqebo_report.specs.declared.origin.Range.{Range}
use Rattle.rinqebo_report.specs.declared.origin.Written.{Written}

-- a place in a source: the number of the source, its lines, and its range, if they are known
abbrev pub PlainPlace : Type 0
PlainPlace = (ℕ × Option (ℕ × ℕ)) × Option ((ℕ × ℕ) × (ℕ × ℕ))

-- An origin: nothing that is written, the defaults, a part of a profile at a place in a file, or a
-- place in a file.
pub data PlainOrigin : Type 0 where
  built_in : PlainOrigin
  default_table : PlainOrigin
  written : PlainPlace → List ℕ × Part → PlainOrigin
  beside : PlainPlace → PlainOrigin

-- lines: the first and the last
abbrev pub lines_view : FileLines → ℕ × ℕ
lines_view lines = (lines.first, lines.last)

-- a position: a line and a column
abbrev pub position_view : Position → ℕ × ℕ
position_view position = (position.line, position.column)

-- a range: where it starts and where it ends
abbrev pub range_view : Range → (ℕ × ℕ) × (ℕ × ℕ)
range_view range = (position_view range.start, position_view range.end)

-- a place: its source, its lines, and its range, if they are known
abbrev pub place_view : FilePlace → PlainPlace
place_view place =
    ((place.source, option_map lines_view place.lines), option_map range_view place.range)

-- a part of a profile
abbrev pub written_view : Written → List ℕ × Part
written_view w = (string_bytes w.profile, w.part)

-- an origin
abbrev pub origin_view : Origin → PlainOrigin
origin_view origins.BuiltIn = built_in
origin_view origins.DefaultTable = default_table
origin_view (origins.Written w) = written (place_view w.place) (written_view w)
origin_view (origins.File place) = beside (place_view place)
