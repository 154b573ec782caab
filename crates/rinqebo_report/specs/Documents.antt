-- Reports as JSON: objects with their keys in the order of bytes.
use Rattle.std.specs.Prelude.{ℕ, Bool, true, List, Option, None, Some, length, map, fold, count_by, codes, String, string_bytes, if◌then◌else◌}
use Rattle.std.specs.declared.alloc.Global.{Global}
use Rattle.serde_json.specs.Data.{Data, null, boolean, number, unsigned, string, array, object, no_items, item, Members, no_members, member, put}
use Rattle.serde_json.specs.Find.{of_integer}
use Rattle.serde_json.specs.View.{items_of}
use Rattle.rinqebo_report.specs.declared.finding.RefusedExpression.{RefusedExpression}
use Rattle.rinqebo_report.specs.declared.finding.Finding.{Finding}
use Rattle.rinqebo_report.specs.declared.finding.FindingStep.{FindingStep}
use Rattle.rinqebo_report.specs.declared.finding.FindingStep.TheVariants as steps
use Rattle.rinqebo_report.specs.declared.finding.CharSpan.{CharSpan}
use Rattle.rinqebo_report.specs.declared.origin.FileLines.{FileLines}
use Rattle.rinqebo_report.specs.declared.origin.Origin.{Origin}
use Rattle.rinqebo_report.specs.declared.origin.Origin.TheVariants as origins
use Rattle.rinqebo_report.specs.declared.origin.Part.{Part}
use Rattle.rinqebo_report.specs.declared.origin.Part.TheVariants.{Fields, Override, Script}
use Rattle.rinqebo_report.specs.declared.origin.FilePlace.{FilePlace}
use Rattle.rinqebo_report.specs.declared.origin.Position.{Position}
use Rattle.rinqebo_report.specs.declared.origin.Range.{Range}
use Rattle.rinqebo_report.specs.declared.origin.Source.{Source}
use Rattle.rinqebo_report.specs.declared.origin.SourceKind.{SourceKind}
use Rattle.rinqebo_report.specs.declared.origin.SourceKind.TheVariants as kinds
use Rattle.rinqebo_report.specs.declared.report.ConditionAnswer.{ConditionAnswer}
use Rattle.rinqebo_report.specs.declared.report.ConditionAnswer.TheVariants as answers
use Rattle.rinqebo_report.specs.declared.report.Entry.{Entry}
use Rattle.rinqebo_report.specs.declared.report.ListWrapper.{ListWrapper}
use Rattle.rinqebo_report.specs.declared.report.Rule.{Rule}
use Rattle.rinqebo_report.specs.declared.report.SettingRow.{SettingRow}
use Rattle.rinqebo_report.specs.declared.report.TestId.{TestId}
use Rattle.rinqebo_report.specs.declared.report.TestRows.{TestRows}
use Rattle.rinqebo_report.specs.declared.report.Unreached.{Unreached}
use Rattle.rinqebo_report.specs.declared.value.TableMember.{TableMember}
use Rattle.rinqebo_report.specs.declared.value.Scalar.{Scalar}
use Rattle.rinqebo_report.specs.declared.value.Scalar.TheVariants as scalars
use Rattle.rinqebo_report.specs.declared.value.Value.{Value}
use Rattle.rinqebo_report.specs.declared.value.Value.TheVariants as values
use Rattle.rinqebo_report.specs.Durations.{duration_text}
use Rattle.rinqebo_report.specs.Filled.{put_filled}
use Rattle.rinqebo_report.specs.Headers.{platform_word}
use Rattle.rinqebo_report.specs.Pages.{is_error, is_warning, level_word, verdict_text}

-- a number
abbrev pub count_data : ℕ → Data
count_data n = number (unsigned n)

-- a text
abbrev pub text_data : String Global → Data
text_data text = string (string_bytes text)

-- a text, or null
abbrev pub optional_text_data : Option (String Global) → Data
optional_text_data None = null
optional_text_data (Some text) = text_data text

-- a number, or null
abbrev pub optional_count_data : Option ℕ → Data
optional_count_data None = null
optional_count_data (Some n) = count_data n

-- a list, each by itself
abbrev pub list_data : {X : Type 0} → (X → Data) → List X → Data
list_data f xs = array (items_of (map f xs))

-- two numbers
abbrev pub pair_data : ℕ → ℕ → Data
pair_data m n = array (item (count_data m) (item (count_data n) no_items))

-- lines, or null
abbrev pub lines_data : Option FileLines → Data
lines_data None = null
lines_data (Some lines) = pair_data lines.first lines.last

-- a position: its line and its column
abbrev pub position_data : Position → Data
position_data position = pair_data position.line position.column

-- a range, where it starts and where it ends, or null
abbrev pub range_data : Option Range → Data
range_data None = null
range_data (Some range) =
    array (item (position_data range.start) (item (position_data range.end) no_items))

-- a value that holds no others: a duration is its text in one number, however a file writes it
abbrev pub scalar_data : Scalar → Data
scalar_data (scalars.Boolean b) = boolean b
scalar_data (scalars.Integer z) = number (of_integer z)
scalar_data (scalars.Text text) = text_data text
scalar_data (scalars.Duration duration) = string (duration_text duration.nanoseconds)

-- members, with one of a table
abbrev pub with_field : Members → TableMember → Members
with_field members field = put (string_bytes field.key) (scalar_data field.value) members

-- a value
abbrev pub value_data : Value → Data
value_data (values.Scalar scalar) = scalar_data scalar
value_data (values.Texts texts) = list_data text_data texts.items
value_data (values.Table fields) = object (fold with_field no_members fields.items)

-- a value, or null
abbrev pub optional_value_data : Option Value → Data
optional_value_data None = null
optional_value_data (Some value) = value_data value

-- the word for a part of a profile
abbrev pub part_word : Part → List ℕ
part_word Fields = codes "profile"
part_word (Override index) = codes "override"
part_word (Script index) = codes "script"

-- the position of a part of a profile in its file, or null
abbrev pub part_data : Part → Data
part_data Fields = null
part_data (Override index) = count_data index
part_data (Script index) = count_data index

-- an origin of this kind
abbrev pub kind_data : List ℕ → Data → Data → Data → Data → Data → Data
kind_data kind index lines profile range source =
    object (member (codes "index") index (member (codes "kind") (string kind)
    (member (codes "lines") lines (member (codes "profile") profile
    (member (codes "range") range (member (codes "source") source no_members))))))

-- an origin
abbrev pub origin_data : Origin → Data
origin_data origins.BuiltIn = kind_data (codes "built-in") null null null null null
origin_data origins.DefaultTable = kind_data (codes "default-table") null null null null null
origin_data (origins.Written written) =
    kind_data (part_word written.part) (part_data written.part) (lines_data written.place.lines)
    (text_data written.profile) (range_data written.place.range) (count_data written.place.source)
origin_data (origins.File place) =
    kind_data (codes "file") null (lines_data place.lines) null (range_data place.range)
    (count_data place.source)

-- a setting of a test
abbrev pub setting_data : SettingRow → Data
setting_data row =
    object (member (codes "origins") (list_data origin_data row.origins.items)
    (member (codes "value") (optional_value_data row.value) no_members))

-- whether a test runs: of one that a list says to be ignored, a member says so
abbrev pub runs_data : Bool → SettingRow → Data
runs_data is_ignored row =
    if is_ignored then object (member (codes "ignored") (boolean true)
    (member (codes "origins") (list_data origin_data row.origins.items)
    (member (codes "value") (optional_value_data row.value) no_members)))
    else setting_data row

-- members, with a setting
abbrev pub with_setting : Members → SettingRow → Members
with_setting members row = put (string_bytes row.key) (setting_data row) members

-- a test
abbrev pub test_data : TestRows → Data
test_data test =
    object (member (codes "binary-id") (text_data test.binary)
    (member (codes "name") (text_data test.name)
    (member (codes "platform") (string (platform_word test.platform))
    (member (codes "runs") (runs_data test.is_ignored test.runs)
    (member (codes "settings") (object (fold with_setting no_members test.settings.items))
    no_members)))))

-- the names of a test
abbrev pub test_id_data : TestId → Data
test_id_data test =
    object (member (codes "binary-id") (text_data test.binary)
    (member (codes "name") (text_data test.name)
    (member (codes "platform") (string (platform_word test.platform)) no_members)))

-- the list wrapper of a binary
abbrev pub wrapper_data : ListWrapper → Data
wrapper_data wrapper =
    object (member (codes "binary-id") (text_data wrapper.binary)
    (member (codes "value") (text_data wrapper.value) no_members))

-- a leaf of the configuration
abbrev pub entry_data : Entry → Data
entry_data entry =
    object (member (codes "hidden") (boolean entry.is_hidden)
    (member (codes "key") (text_data entry.key)
    (member (codes "origin") (origin_data entry.origin)
    (member (codes "value") (value_data entry.value) no_members))))

-- the word of a condition's value
abbrev pub answer_word : ConditionAnswer → List ℕ
answer_word answers.Absent = codes "absent"
answer_word answers.Yes = codes "yes"
answer_word answers.No = codes "no"
answer_word answers.Unknown = codes "unknown"
answer_word answers.Unrequested = codes "unasked"

-- a rule
abbrev pub rule_data : Rule → Data
rule_data rule =
    object (member (codes "filter") (string (answer_word rule.filter.answer))
    (member (codes "host") (string (answer_word rule.host.answer))
    (member (codes "origin") (origin_data rule.origin)
    (member (codes "other-origins") (list_data origin_data rule.others.items)
    (member (codes "target") (string (answer_word rule.target.answer))
    (member (codes "value") (optional_value_data rule.value)
    (member (codes "verdict") (string (verdict_text rule.verdict)) no_members)))))))

-- the word of a kind of source
abbrev pub kind_word : SourceKind → List ℕ
kind_word kinds.Default = codes "default"
kind_word (kinds.Tool name) = codes "tool"
kind_word kinds.Organisation = codes "organisation"
kind_word kinds.Explicit = codes "explicit"
kind_word kinds.Discovered = codes "discovered"

-- the tool of a kind of source, or null
abbrev pub tool_data : SourceKind → Data
tool_data kinds.Default = null
tool_data (kinds.Tool name) = text_data name
tool_data kinds.Organisation = null
tool_data kinds.Explicit = null
tool_data kinds.Discovered = null

-- a source
abbrev pub source_data : Source → Data
source_data source =
    object (member (codes "kind") (string (kind_word source.kind))
    (member (codes "path") (optional_text_data source.path)
    (member (codes "tool") (tool_data source.kind) no_members)))

-- checks that were not reached
abbrev pub unreached_data : Unreached → Data
unreached_data unreached =
    object (member (codes "checks") (list_data text_data unreached.checks.items)
    (member (codes "source") (count_data unreached.source) no_members))

-- the place of a finding's source, or null
abbrev pub place_source_data : Option FilePlace → Data
place_source_data None = null
place_source_data (Some place) = count_data place.source

-- the lines of a finding, or null
abbrev pub place_lines_data : Option FilePlace → Data
place_lines_data None = null
place_lines_data (Some place) = lines_data place.lines

-- the range of a finding, or null
abbrev pub place_range_data : Option FilePlace → Data
place_range_data None = null
place_range_data (Some place) = range_data place.range

-- a span, or null
abbrev pub span_data : Option CharSpan → Data
span_data None = null
span_data (Some span) = pair_data span.from span.to

-- the text of an expression, or null
abbrev pub expression_data : Option RefusedExpression → Data
expression_data None = null
expression_data (Some expression) = text_data expression.text

-- the span of an expression, or null
abbrev pub expression_span_data : Option RefusedExpression → Data
expression_span_data None = null
expression_span_data (Some expression) = span_data expression.span

-- members, with what is wrong
abbrev pub with_fault : Finding → Members → Members
with_fault finding members =
    put_filled (codes "upstream") (optional_text_data finding.upstream)
    (put (codes "message") (text_data finding.message) (put (codes "level")
    (string (level_word finding.level)) (put (codes "code") (text_data finding.code) members)))

-- a step of a path: a key, or a position
abbrev pub step_data : FindingStep → Data
step_data (steps.Key key) = text_data key
step_data (steps.Position place) = count_data place

-- members, with where it is
abbrev pub with_site : Finding → Members → Members
with_site finding members =
    put_filled (codes "source") (place_source_data finding.place)
    (put_filled (codes "range") (place_range_data finding.place)
    (put_filled (codes "path") (list_data step_data finding.steps.items)
    (put_filled (codes "lines") (place_lines_data finding.place)
    (put_filled (codes "column") (optional_count_data finding.column) members))))

-- members, with the expression that it is about
abbrev pub with_expression : Finding → Members → Members
with_expression finding members =
    put_filled (codes "span") (expression_span_data finding.expression)
    (put_filled (codes "expression") (expression_data finding.expression) members)

-- members, with what to do
abbrev pub with_advice : Finding → Members → Members
with_advice finding members =
    put_filled (codes "notes") (list_data text_data finding.notes.items)
    (put_filled (codes "help") (optional_text_data finding.help)
    (put_filled (codes "expected") (optional_text_data finding.expected) members))

-- A finding: its level, its code and its message, and what is known beside them. Members that would
-- be empty are left out.
abbrev pub finding_data : Finding → Data
finding_data finding =
    object (with_advice finding (with_expression finding (with_site finding
    (with_fault finding no_members))))

-- how many findings there are, of both levels and of each
abbrev pub summary_data : List Finding → Data
summary_data findings =
    object (member (codes "errors") (count_data (count_by is_error findings))
    (member (codes "findings") (count_data (length findings))
    (member (codes "warnings") (count_data (count_by is_warning findings)) no_members)))
