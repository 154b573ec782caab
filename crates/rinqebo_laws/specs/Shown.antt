-- What reports show of origins and of values.
use Rattle.std.specs.Prelude.{◌≡◌, ◌==◌, ◌≤◌, ℕ, List, [], ◌∷◌, Option, None, Some, if◌then◌else◌, map, option_map, string_bytes}
use Rattle.std.specs.List.{AllByRecursion}
use Rattle.nextest_tables.specs.Written.{Name}
use Rattle.rinqebo_report.specs.declared.origin.FileLines.{FileLines}
use Rattle.rinqebo_report.specs.declared.origin.Origin.{Origin}
use Rattle.rinqebo_report.specs.declared.origin.Origin.TheVariants as kinds
use Rattle.rinqebo_report.specs.declared.origin.Part.{Part}
use Rattle.rinqebo_report.specs.declared.origin.Range.{Range}
use Rattle.rinqebo_report.specs.declared.value.Scalar.{Scalar}
use Rattle.rinqebo_report.specs.declared.value.Scalar.TheVariants as scalars
use Rattle.rinqebo_report.specs.declared.value.Value.{Value}
use Rattle.rinqebo_report.specs.declared.value.Value.TheVariants as values
use Rattle.rinqebo_origins.specs.Reported.{value_view}

-- An origin without its columns: nothing writes a value, the default table does, or a file does:
-- under a profile, in its fields or in one of its rules, or outside of all profiles. A file is a
-- source, with the lines that have the value.
pub data ShownOrigin : Type 0 where
  built_in : ShownOrigin
  default_table : ShownOrigin
  under_profile : Name → Part → ℕ → Option FileLines → ShownOrigin
  outside : ℕ → Option FileLines → ShownOrigin

-- what is shown of an origin
abbrev pub origin_shown : Origin → ShownOrigin
origin_shown kinds.BuiltIn = built_in
origin_shown kinds.DefaultTable = default_table
origin_shown (kinds.Written written) = under_profile (string_bytes written.profile) written.part
    written.place.source written.place.lines
origin_shown (kinds.File place) = outside place.source place.lines

-- A range is on some lines: it begins on one of them, and ends on the same one or on a later one.
pub record IsOnLines (lines : FileLines) (range : Range) : Type 0 where
  pub begins : lines.first ≤ range.start.line
  pub rises : range.start.line ≤ range.end.line
  pub ends : range.end.line ≤ lines.last

-- what has a range has lines, and its range is on them
abbrev pub HasRangeOnLines : Option FileLines → Option Range → Type 0
HasRangeOnLines lines None = Unit {0}
HasRangeOnLines None (Some range) = ⊥
HasRangeOnLines (Some lines) (Some range) = IsOnLines lines range

-- an origin that has a range has it on its lines
abbrev pub IsRangeOnLines : Origin → Type 0
IsRangeOnLines kinds.BuiltIn = Unit {0}
IsRangeOnLines kinds.DefaultTable = Unit {0}
IsRangeOnLines (kinds.Written written) =
    HasRangeOnLines written.place.lines written.place.range
IsRangeOnLines (kinds.File place) = HasRangeOnLines place.lines place.range

-- the line on which a page shows that something begins: where its range starts, or else the first
-- of its lines
abbrev pub line_of : FileLines → Option Range → ℕ
line_of lines None = lines.first
line_of lines (Some range) = range.start.line

-- the line that a page shows of what is on one line
abbrev pub single_line : Option FileLines → Option Range → Option ℕ
single_line None range = None
single_line (Some lines) range =
    if lines.first == lines.last then Some (line_of lines range) else None

-- the line that a page shows of an origin, if its value is on one line
abbrev pub line_shown : Origin → Option ℕ
line_shown kinds.BuiltIn = None
line_shown kinds.DefaultTable = None
line_shown (kinds.Written written) = single_line written.place.lines written.place.range
line_shown (kinds.File place) = single_line place.lines place.range

-- Origins are shown alike: each of the same kind, profile, part, file and lines. The range of each,
-- if it has one, is on these lines. Of a value on one line both are shown with this line.
pub record AreShownAlike (one other : List Origin) : Type 0 where
  pub shown : map origin_shown one ≡ map origin_shown other
  pub ranges : AllByRecursion IsRangeOnLines one
  pub other_ranges : AllByRecursion IsRangeOnLines other
  pub lines : map line_shown one ≡ map line_shown other

-- The fields of a profile, or one of its rules, in a source.
pub record SourcePart : Type 0 where
  pub profile : Name
  pub part : Part
  pub source : ℕ

-- the part of a profile in a source that an origin is in, if it is in one
abbrev pub part_of : Origin → Option SourcePart
part_of kinds.BuiltIn = None
part_of kinds.DefaultTable = None
part_of (kinds.Written written) = Some (record {
  profile = string_bytes written.profile;
  part = written.part;
  source = written.place.source;
})
part_of (kinds.File place) = None

-- the text with which a value is reported, if it is a duration that has one
abbrev pub scalar_text : Scalar → Option (List ℕ)
scalar_text (scalars.Boolean b) = None
scalar_text (scalars.Integer n) = None
scalar_text (scalars.Text t) = None
scalar_text (scalars.Duration d) = option_map string_bytes d.written

-- the texts with which what a value holds is reported
abbrev pub value_texts : Value → List (Option (List ℕ))
value_texts (values.Scalar s) = scalar_text s ∷ []
value_texts (values.Texts ts) = []
value_texts (values.Table fs) = map (λ f. scalar_text f.value) fs.items

-- Two values are reported alike: as the same value, and each duration with the same text of a file,
-- or without one.
pub record AreAlike (one other : Option Value) : Type 0 where
  pub value : option_map value_view one ≡ option_map value_view other
  pub texts : option_map value_texts one ≡ option_map value_texts other
