-- Whether two origins are the same: within one side, and across the two sides.
use Rattle.std.specs.Prelude.{ℕ, ◌==◌, ◌&&◌, Bool, true, false, List, Option, None, Some, slice_get, bytes_eq, string_bytes}
use Rattle.std.specs.Cmp.Lexicographic.{pointwise}
use Rattle.std.specs.Option.{option_eq}
use Rattle.rinqebo_report.specs.declared.origin.FileLines.{FileLines}
use Rattle.rinqebo_report.specs.declared.origin.FilePlace.{FilePlace}
use Rattle.rinqebo_report.specs.declared.origin.Origin.{Origin}
use Rattle.rinqebo_report.specs.declared.origin.Origin.TheVariants as origins
use Rattle.rinqebo_report.specs.declared.origin.Part.{Part}
use Rattle.rinqebo_report.specs.declared.origin.Part.TheVariants.{Fields, Override, Script}
use Rattle.rinqebo_report.specs.declared.origin.Position.{Position}
use Rattle.rinqebo_report.specs.declared.origin.Range.{Range}
use Rattle.rinqebo_report.specs.declared.origin.Source.{Source}
use Rattle.rinqebo_report.specs.declared.origin.SourceKind.{SourceKind}
use Rattle.rinqebo_report.specs.declared.origin.SourceKind.TheVariants as kinds
use Rattle.rinqebo_report.specs.declared.origin.Written.{Written}

-- whether lines are the same
abbrev pub same_lines : FileLines → FileLines → Bool
same_lines a b = a.first == b.first && a.last == b.last

-- whether two positions are the same
abbrev pub same_position : Position → Position → Bool
same_position a b = a.line == b.line && a.column == b.column

-- whether two ranges are the same
abbrev pub same_range : Range → Range → Bool
same_range a b = same_position a.start b.start && same_position a.end b.end

-- whether two places are the same lines and the same range of the same source
abbrev pub same_place : FilePlace → FilePlace → Bool
same_place a b =
    (a.source == b.source && option_eq same_lines a.lines b.lines)
    && option_eq same_range a.range b.range

-- whether two parts of a profile are the same
abbrev pub same_part : Part → Part → Bool
same_part Fields Fields = true
same_part (Override a) (Override b) = a == b
same_part (Script a) (Script b) = a == b
same_part _ _ = false

-- whether two values are written in the same part of the same profile
abbrev pub same_written : Written → Written → Bool
same_written a b =
    bytes_eq (string_bytes a.profile) (string_bytes b.profile) && same_part a.part b.part

-- whether two origins of one side are the same
abbrev pub same_origin : Origin → Origin → Bool
same_origin origins.BuiltIn origins.BuiltIn = true
same_origin origins.DefaultTable origins.DefaultTable = true
same_origin (origins.Written a) (origins.Written b) = same_place a.place b.place && same_written a b
same_origin (origins.File a) (origins.File b) = same_place a b
same_origin _ _ = false

-- whether the origins of two values of one side are the same, in the same order
abbrev pub same_origins : List Origin → List Origin → Bool
same_origins = pointwise same_origin

-- whether two sources have the same owner, whatever their paths are
abbrev pub like_kind : SourceKind → SourceKind → Bool
like_kind (kinds.Tool a) (kinds.Tool b) = bytes_eq (string_bytes a) (string_bytes b)
like_kind kinds.Default kinds.Default = true
like_kind kinds.Organisation kinds.Organisation = true
like_kind kinds.Explicit kinds.Explicit = true
like_kind kinds.Explicit kinds.Discovered = true
like_kind kinds.Discovered kinds.Explicit = true
like_kind kinds.Discovered kinds.Discovered = true
like_kind _ _ = false

-- whether two sources have the same owner, or neither is there
abbrev pub like_optional : Option Source → Option Source → Bool
like_optional (Some a) (Some b) = like_kind a.kind b.kind
like_optional None None = true
like_optional _ _ = false

-- whether the sources at a place of the left side and at one of the right side have the same owner
abbrev pub like_source : List Source → List Source → ℕ → ℕ → Bool
like_source from to a b = like_optional (slice_get from a) (slice_get to b)

-- whether an origin of the left side is the same part of the same profile of a file of the same
-- owner as one of the right side: paths and lines may differ
abbrev pub like_origin : List Source → List Source → Origin → Origin → Bool
like_origin from to origins.BuiltIn origins.BuiltIn = true
like_origin from to origins.DefaultTable origins.DefaultTable = true
like_origin from to (origins.Written a) (origins.Written b) =
    like_source from to a.place.source b.place.source && same_written a b
like_origin from to (origins.File a) (origins.File b) = like_source from to a.source b.source
like_origin _ _ _ _ = false

-- whether the origins of a value of the left side are like those of one of the right side, in order
abbrev pub like_origins : List Source → List Source → List Origin → List Origin → Bool
like_origins from to = pointwise (like_origin from to)
