-- Findings as commands of GitHub's workflows.
use Rattle.std.specs.Prelude.{ℕ, ◌==◌, List, [], ◌∷◌, ◌++◌, Option, None, Some, option_map, option_and_then, slice_get, flat_map, encode_utf8, codes, decimal, string_bytes, if◌then◌else◌}
use Rattle.std.specs.Str.{chars}
use Rattle.rinqebo_report.specs.declared.finding.Finding.{Finding}
use Rattle.rinqebo_report.specs.declared.origin.FileLines.{FileLines}
use Rattle.rinqebo_report.specs.declared.origin.FilePlace.{FilePlace}
use Rattle.rinqebo_report.specs.declared.origin.Range.{Range}
use Rattle.rinqebo_report.specs.declared.origin.Source.{Source}
use Rattle.rinqebo_report.specs.declared.report.Report.{Report}
use Rattle.rinqebo_report.specs.Advice.{message_with_advice}
use Rattle.rinqebo_report.specs.OriginText.{below}
use Rattle.rinqebo_report.specs.Pages.{level_word}

-- a character of a message: `%` and the ends of lines are spelled in hexadecimal digits
abbrev pub message_char : ℕ → List ℕ
message_char c =
    if c == 37 then codes "%25"
    else (if c == 13 then codes "%0D"
    else (if c == 10 then codes "%0A"
    else encode_utf8 c))

-- a character of a property: so are a colon and a comma
abbrev pub property_char : ℕ → List ℕ
property_char c =
    if c == 58 then codes "%3A"
    else (if c == 44 then codes "%2C"
    else message_char c)

-- lines, as properties
abbrev pub lines_property : Option FileLines → List ℕ
lines_property None = []
lines_property (Some lines) =
    codes "line=" ++ (decimal lines.first
    ++ (codes ",endLine=" ++ (decimal lines.last ++ codes ",")))

-- the columns of a range, as properties: GitHub takes them where the range is on one line
abbrev pub columns_property : Range → List ℕ
columns_property range =
    if range.start.line == range.end.line
    then codes "col=" ++ (decimal range.start.column
    ++ (codes ",endColumn=" ++ (decimal range.end.column ++ codes ",")))
    else []

-- where in its file something is, as properties: its range, or else its lines
abbrev pub range_property : Option Range → Option FileLines → List ℕ
range_property (Some range) lines =
    lines_property (Some (record { first = range.start.line; last = range.end.line }))
    ++ columns_property range
range_property None lines = lines_property lines

-- the path of the source at a place among sources, if it has one
abbrev pub file_at : List Source → ℕ → Option (List ℕ)
file_at sources n = option_map string_bytes (option_and_then (λ s. s.path) (slice_get sources n))

-- a file below the folder of a workflow, and a place in it, as properties
abbrev pub path_property : List ℕ → FilePlace → Option (List ℕ) → List ℕ
path_property workspace place None = []
path_property workspace place (Some path) =
    codes "file=" ++ (flat_map property_char (chars (below workspace path))
    ++ (codes "," ++ range_property place.range place.lines))

-- a place, as properties
abbrev pub file_property : List ℕ → List Source → Option FilePlace → List ℕ
file_property workspace sources None = []
file_property workspace sources (Some place) =
    path_property workspace place (file_at sources place.source)

-- the properties of a finding: its place, and its name as the title
abbrev pub properties_text : List ℕ → List Source → Finding → List ℕ
properties_text workspace sources finding =
    file_property workspace sources finding.place
    ++ (codes "title=" ++ flat_map property_char (chars (string_bytes finding.code)))

-- a finding: its level, its properties, and its message with its advice
abbrev pub github_line : List ℕ → List Source → Finding → List ℕ
github_line workspace sources finding =
    codes "::" ++ (level_word finding.level ++ (codes " "
    ++ (properties_text workspace sources finding
    ++ (codes "::" ++ (flat_map message_char (chars (message_with_advice finding))
    ++ 10 ∷ [])))))

-- findings, a line each
abbrev pub github_text : List ℕ → Report → List ℕ
github_text workspace report =
    flat_map (github_line workspace report.sources.items) report.findings.items
