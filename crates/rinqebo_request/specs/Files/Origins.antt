-- The place of a value, as it is reported: which of the sources of a run has it, at which lines, and
-- in which range of them.
use Rattle.std.specs.Prelude.{◌≡◌, ◌≢◌, ◌+◌, ℕ, List, Option, None, Some, MatchOption, option_map, slice_get, string_bytes}
use Rattle.std.specs.List.{AllByRecursion}
use Rattle.std.specs.Option.{option_and_then, option_or}
use Rattle.nextest_places.specs.Spans.Spans.{IsPathSpan}
use Rattle.nextest_places.specs.declared.spans.path_spans.PathSpan.{PathSpan}
use Rattle.nextest_places.specs.Place.{HasNoPlace, IsPlaceOfPath}
use Rattle.nextest_places.specs.declared.place.Lines.{Lines}
use Rattle.nextest_places.specs.declared.step.Step.{Step}
use Rattle.nextest_places.specs.Spans.Positions.{position_of}
use Rattle.nextest_places.specs.declared.spans.position.ColumnUnit.TheVariants.{Char}
use Rattle.nextest_places.specs.declared.spans.position.TextPosition.{TextPosition}
use Rattle.nextest_places.specs.declared.spans.token.Span.{Span}
use Rattle.nextest_sources.specs.Sources.{Source, SourceKind, tool_file, organisation_file, explicit_file, discovered_file}
use Rattle.rinqebo_report.specs.declared.origin.FileLines.{FileLines}
use Rattle.rinqebo_report.specs.declared.origin.FilePlace.{FilePlace}
use Rattle.rinqebo_report.specs.declared.origin.Position.{Position}
use Rattle.rinqebo_report.specs.declared.origin.Range.{Range}
use Rattle.rinqebo_report.specs.declared.origin.Source.{Source as ReportedSource}
use Rattle.rinqebo_report.specs.declared.origin.SourceKind.{SourceKind as ReportedKind}
use Rattle.rinqebo_report.specs.declared.origin.SourceKind.TheVariants as told
use Rattle.rinqebo_request.specs.declared.files.layers.Layer.{Layer}
use Rattle.rinqebo_request.specs.declared.files.places.SpanPart.{SpanPart}
use Rattle.rinqebo_request.specs.declared.files.places.SpanPart.TheVariants as parts

-- what brings a file, as it is reported: the defaults are not a file
abbrev pub reported_kind : ReportedKind → Option SourceKind
reported_kind told.Default = None
reported_kind (told.Tool name) = Some (tool_file (string_bytes name))
reported_kind told.Organisation = Some organisation_file
reported_kind told.Explicit = Some explicit_file
reported_kind told.Discovered = Some discovered_file

-- the file at a path that is brought by something, if that brings files
abbrev pub file_of : Option SourceKind → List ℕ → Option Source
file_of kind path = option_map (λ kind. record { path = path; kind = kind }) kind

-- the file of a source, if it is one
abbrev pub reported_file : ReportedSource → Option Source
reported_file source =
    option_and_then (file_of (reported_kind source.kind)) (option_map string_bytes source.path)

-- the layer at a position is a file
abbrev pub IsFileAt : List Layer → Source → ℕ → Type 0
IsFileAt layers file position =
    option_and_then (λ layer. reported_file layer.source) (slice_get layers position) ≡ Some file

-- no layer is a file
abbrev pub HasNoFile : List Layer → Source → Type 0
HasNoFile layers file = AllByRecursion (λ layer. reported_file layer.source ≢ Some file) layers

-- Lines are those that define the value at a path of a text: there are none without a text, and
-- where the path has no place in it.
abbrev pub AreLinesAt : Option (List ℕ) → List Step → Option FileLines → Type 0
AreLinesAt None path lines = lines ≡ None
AreLinesAt (Some text) path None = HasNoPlace path text
AreLinesAt (Some text) path (Some lines) =
    IsPlaceOfPath path text (record { first = lines.first; last = lines.last })

-- the bytes of the key at a path, or else those of the value; or these two the other way round
abbrev pub part_span : SpanPart → PathSpan → Option Span
part_span parts.Key found = option_or found.key found.value
part_span parts.Value found = option_or found.value found.key

-- a position, as it is reported: its line and its column from 1
abbrev pub reported_position : TextPosition → Position
reported_position at = record { line = at.line + 1; column = at.column + 1 }

-- the range of some bytes of a text: columns count characters
abbrev pub range_of : List ℕ → Span → Range
range_of text span =
    record {
      start = reported_position (position_of Char text span.start);
      end = reported_position (position_of Char text span.end);
    }

-- where a text writes the value at a path, if the path has a place in it
abbrev pub AreSpansAt : List ℕ → List Step → Option PathSpan → Type 0
AreSpansAt text path found = MatchOption found (HasNoPlace path text) (IsPathSpan path text)

-- A range is that of the value at a path of a text, or of its key: there is none without a text, and
-- where the path has no place in it or the bytes of neither are known.
abbrev pub IsRangeAt : SpanPart → Option (List ℕ) → List Step → Option Range → Type 0
IsRangeAt part None path range = range ≡ None
IsRangeAt part (Some text) path range =
    (found : Option PathSpan) × AreSpansAt text path found
    × (range ≡ option_map (range_of text) (option_and_then (part_span part) found))

-- A place is that of the value at a path of a text, or of its key: it has the source, the lines that
-- define the value, and the range of the value or of the key.
pub record IsPlaceIn (part : SpanPart) (text : Option (List ℕ)) (position : ℕ) (path : List Step)
    (place : FilePlace) : Type 0 where
  pub source : place.source ≡ position
  pub lines : AreLinesAt text path place.lines
  pub range : IsRangeAt part text path place.range

-- a place is that of the value at a path in the layer at a position, or of its key
abbrev pub IsPartPlace : SpanPart → List Layer → ℕ → List Step → FilePlace → Type 0
IsPartPlace part layers position path place =
    IsPlaceIn part (option_and_then (λ layer. layer.places) (slice_get layers position)) position
    path place

-- A place is that of a path in the layer at a position. Its range is that of the value, or else that
-- of the key.
abbrev pub IsPathPlace : List Layer → ℕ → List Step → FilePlace → Type 0
IsPathPlace layers position path place = IsPartPlace parts.Value layers position path place
