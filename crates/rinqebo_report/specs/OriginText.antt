-- Origins as pages show them.
use Rattle.std.specs.Prelude.{ℕ, ◌-◌, ◌==◌, Bool, true, false, List, [], ◌∷◌, ◌++◌, Option, None, Some, option_and_then, unwrap_or, slice_get, slice_index, length, codes, decimal, map, String, string_bytes, if◌then◌else◌}
use Rattle.std.specs.declared.alloc.Global.{Global}
use Rattle.rinqebo_report.specs.declared.origin.FileLines.{FileLines}
use Rattle.rinqebo_report.specs.declared.origin.Origin.{Origin}
use Rattle.rinqebo_report.specs.declared.origin.Origin.TheVariants as origins
use Rattle.rinqebo_report.specs.declared.origin.Part.{Part}
use Rattle.rinqebo_report.specs.declared.origin.Part.TheVariants.{Fields, Override, Script}
use Rattle.rinqebo_report.specs.declared.origin.FilePlace.{FilePlace}
use Rattle.rinqebo_report.specs.declared.origin.Position.{Position}
use Rattle.rinqebo_report.specs.declared.origin.Range.{Range}
use Rattle.rinqebo_report.specs.declared.origin.Source.{Source}
use Rattle.rinqebo_report.specs.declared.origin.SourceKind.{SourceKind}
use Rattle.rinqebo_report.specs.declared.origin.SourceKind.TheVariants as kinds
use Rattle.rinqebo_report.specs.declared.origin.Written.{Written}
use Rattle.rinqebo_report.specs.TomlText.{key_text}

-- the rest of a text after a prefix, if the text begins with it
abbrev pub after_prefix : List ℕ → List ℕ → Option (List ℕ)
after_prefix [] text = Some text
after_prefix (c ∷ prefix) [] = None
after_prefix (c ∷ prefix) (d ∷ text) = if c == d then after_prefix prefix text else None

-- whether a path ends with a slash
abbrev pub ends_with_slash : List ℕ → Bool
ends_with_slash path = slice_index path (length path - 1) == 47

-- the rest of a path after a root, without a slash if the root does not end with one
abbrev pub behind_root : Bool → List ℕ → Option (List ℕ)
behind_root true rest = Some rest
behind_root false rest = after_prefix (codes "/") rest

-- a path below a root without the root and the slash after it, and another path as it is, such as
-- each path if the root is empty
abbrev pub below : List ℕ → List ℕ → List ℕ
below root path =
    if length root == 0 then path
    else unwrap_or
    (option_and_then (behind_root (ends_with_slash root)) (after_prefix root path)) path

-- the path of a source, below a root where it is; the defaults have none
abbrev pub path_text : List ℕ → Option (String Global) → List ℕ
path_text root (Some path) = below root (string_bytes path)
path_text root None = codes "default table"

-- the path of the source at a place among sources
abbrev pub path_at : List ℕ → List Source → ℕ → List ℕ
path_at root sources n = path_text root (option_and_then (λ s. s.path) (slice_get sources n))

-- a colon and lines: the last one where it is another than the first
abbrev pub lines_text : Option FileLines → List ℕ
lines_text None = []
lines_text (Some lines) =
    codes ":" ++ (decimal lines.first
    ++ (if lines.first == lines.last then [] else codes "-" ++ decimal lines.last))

-- a colon and a line, and then a colon and a column
abbrev pub position_text : Position → List ℕ
position_text position =
    codes ":" ++ (decimal position.line ++ (codes ":" ++ decimal position.column))

-- where in its file something is: where its range starts, or else its lines
abbrev pub range_text : Option Range → Option FileLines → List ℕ
range_text (Some range) lines = position_text range.start
range_text None lines = lines_text lines

-- the tool that a source comes from, if it comes from one
abbrev pub tool_of : SourceKind → Option (List ℕ)
tool_of kinds.Default = None
tool_of (kinds.Tool name) = Some (string_bytes name)
tool_of kinds.Organisation = None
tool_of kinds.Explicit = None
tool_of kinds.Discovered = None

-- the tool that the source at a place among sources comes from
abbrev pub tool_at : List Source → ℕ → Option (List ℕ)
tool_at sources n = option_and_then (λ s. tool_of s.kind) (slice_get sources n)

-- a tool, in parentheses
abbrev pub tool_text : Option (List ℕ) → List ℕ
tool_text None = []
tool_text (Some name) = codes " (tool " ++ (name ++ codes ")")

-- a place: the path, where in the file it is, and the tool
abbrev pub place_text : List ℕ → List Source → FilePlace → List ℕ
place_text root sources place =
    path_at root sources place.source
    ++ (range_text place.range place.lines ++ tool_text (tool_at sources place.source))

-- a part of a profile
abbrev pub part_text : Part → List ℕ
part_text Fields = []
part_text (Override index) = codes ".overrides." ++ decimal index
part_text (Script index) = codes ".scripts." ++ decimal index

-- what is written in a file: the place, and then the rule or the profile
abbrev pub written_text : List ℕ → List Source → Written → List ℕ
written_text root sources written =
    place_text root sources written.place
    ++ (codes " profile." ++ (key_text (string_bytes written.profile) ++ part_text written.part))

-- an origin
abbrev pub origin_text : List ℕ → List Source → Origin → List ℕ
origin_text root sources origins.BuiltIn = codes "built in"
origin_text root sources origins.DefaultTable = codes "default table"
origin_text root sources (origins.Written written) = written_text root sources written
origin_text root sources (origins.File place) = place_text root sources place

-- origins as texts
abbrev pub origin_texts : List ℕ → List Source → List Origin → List (List ℕ)
origin_texts root sources origins = map (origin_text root sources) origins
