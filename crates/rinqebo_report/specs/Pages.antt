-- The pages of a report.
use Rattle.std.specs.Prelude.{ℕ, ◌+◌, ◌-◌, ◌==◌, max, Bool, true, false, List, [], ◌∷◌, ◌++◌, Option, None, Some, is_some, option_map, length, fold, flat_map, unwrap_or, count_by, codes, decimal, take, String, string_bytes, if◌then◌else◌, not}
use Rattle.std.specs.declared.alloc.Global.{Global}
use Rattle.std.specs.Str.{chars}
use Rattle.rinqebo_report.specs.declared.finding.RefusedExpression.{RefusedExpression}
use Rattle.rinqebo_report.specs.declared.finding.Finding.{Finding}
use Rattle.rinqebo_report.specs.declared.finding.Level.{Level}
use Rattle.rinqebo_report.specs.declared.finding.Level.TheVariants as levels
use Rattle.rinqebo_report.specs.declared.finding.CharSpan.{CharSpan}
use Rattle.rinqebo_report.specs.declared.origin.FileLines.{FileLines}
use Rattle.rinqebo_report.specs.declared.origin.Origin.{Origin}
use Rattle.rinqebo_report.specs.declared.origin.FilePlace.{FilePlace}
use Rattle.rinqebo_report.specs.declared.origin.Range.{Range}
use Rattle.rinqebo_report.specs.declared.origin.Source.{Source}
use Rattle.rinqebo_report.specs.declared.layout.KeyColumn.{KeyColumn}
use Rattle.rinqebo_report.specs.declared.layout.Mark.TheVariants.{Comment, Bare}
use Rattle.rinqebo_report.specs.declared.piece.Style.TheVariants as styles
use Rattle.rinqebo_report.specs.declared.piece.Style.{Style}
use Rattle.rinqebo_report.specs.declared.report.Asked.{Asked}
use Rattle.rinqebo_report.specs.declared.report.Condition.{Condition}
use Rattle.rinqebo_report.specs.declared.report.ConditionAnswer.{ConditionAnswer}
use Rattle.rinqebo_report.specs.declared.report.ConditionAnswer.TheVariants as answers
use Rattle.rinqebo_report.specs.declared.report.Content.{Content}
use Rattle.rinqebo_report.specs.declared.report.Content.TheVariants as contents
use Rattle.rinqebo_report.specs.declared.report.Entry.{Entry}
use Rattle.rinqebo_report.specs.declared.report.Report.{Report}
use Rattle.rinqebo_report.specs.declared.report.Rule.{Rule}
use Rattle.rinqebo_report.specs.declared.report.SettingRow.{SettingRow}
use Rattle.rinqebo_report.specs.declared.report.TestRows.{TestRows}
use Rattle.rinqebo_report.specs.declared.report.Unreached.{Unreached}
use Rattle.rinqebo_report.specs.declared.report.Verdict.{Verdict}
use Rattle.rinqebo_report.specs.declared.report.Verdict.TheVariants as verdicts
use Rattle.rinqebo_report.specs.Advice.{message_with_advice}
use Rattle.rinqebo_report.specs.Excerpts.{has_some, margin_runs, number_width, excerpt_runs, remarks_runs}
use Rattle.rinqebo_report.specs.Joined.{joined}
use Rattle.rinqebo_report.specs.Headers.{test_header_runs, list_head_runs}
use Rattle.rinqebo_report.specs.Layout.{Said, width, remark_line, remarked_runs}
use Rattle.rinqebo_report.specs.OriginText.{origin_text, origin_texts, path_at, position_text}
use Rattle.rinqebo_report.specs.Pieces.{Run, styled, repeated, numbered, ending, shown_char}
use Rattle.rinqebo_report.specs.TomlText.{value_text}

-- a text without colours
abbrev pub plain : List ℕ → Run
plain text = styled styles.Plain text

-- how wide the key of a row is: 0 if the row has no value
abbrev pub key_width : SettingRow → ℕ
key_width row = if is_some row.value then width (string_bytes row.key) else 0

-- the width of the widest key of rows
abbrev pub widest : List SettingRow → ℕ
widest rows = fold (λ w row. max w (key_width row)) 0 rows

-- the width of the widest key of the rows that pages show of a test
abbrev pub widest_shown : TestRows → ℕ
widest_shown test =
    if test.shows_runs then max (widest test.settings.items) (key_width test.runs)
    else widest test.settings.items

-- the row of `runs`, if pages show it
abbrev pub runs_shown : List Run → TestRows → List Run
runs_shown runs test = if test.shows_runs then runs else []

-- the rows of a test, as pages show them: that of `runs` comes first
abbrev pub rows_shown : List Run → (SettingRow → List Run) → TestRows → List Run
rows_shown runs g test = runs_shown runs test ++ flat_map g test.settings.items

-- that a setting has no value
abbrev pub absent_runs : List ℕ → List Run
absent_runs key = remark_line (codes "# " ++ (key ++ codes ": none"))

-- the column of the keys of a test's rows, indented by so many blanks
abbrev pub key_column : ℕ → TestRows → KeyColumn
key_column indent test = record { indent = indent; width = widest_shown test }

-- a row without its remarks: the key, an equals sign, and the value
abbrev pub value_front : KeyColumn → List ℕ → List ℕ → List Run
value_front keys key value =
    repeated 32 keys.indent ∷ styled styles.Key key ∷ repeated 32 (keys.width - width key)
    ∷ plain (codes " = ") ∷ plain value ∷ []

-- the remarks of a row with this value: after the column of the values, or below the row, indented
-- by four more blanks
abbrev pub value_said : KeyColumn → List ℕ → List (List ℕ) → Said
value_said keys value texts = record {
  mark = Comment;
  gap = (12 - width value) + 2;
  indent = keys.indent + 4;
  texts = texts;
}

-- a row of a setting: the key, an equals sign, the value, and where it comes from
abbrev pub setting_runs :
    ℕ → KeyColumn → List ℕ → Option (List ℕ) → List (List ℕ) → List Run
setting_runs columns keys key (Some value) texts =
    remarked_runs columns (value_front keys key value) (value_said keys value texts)
setting_runs columns keys key None texts = repeated 32 keys.indent ∷ absent_runs key

-- a row of a test
abbrev pub row_runs : ℕ → List ℕ → List Source → KeyColumn → SettingRow → List Run
row_runs columns root sources keys row =
    setting_runs columns keys (string_bytes row.key) (option_map value_text row.value)
    (origin_texts root sources row.origins.items)

-- the remarks of the row of `runs`: its origins, or that a list says that it is ignored
abbrev pub runs_said : List ℕ → List Source → TestRows → List (List ℕ)
runs_said root sources test =
    if test.is_ignored then codes "ignored in LIST" ∷ []
    else origin_texts root sources test.runs.origins.items

-- the row of `runs`
abbrev pub runs_row_runs : ℕ → List ℕ → List Source → KeyColumn → TestRows → List Run
runs_row_runs columns root sources keys test =
    setting_runs columns keys (string_bytes test.runs.key) (option_map value_text test.runs.value)
    (runs_said root sources test)

-- the rows of a test, indented by so many blanks
abbrev pub test_runs : ℕ → ℕ → List ℕ → List Source → TestRows → List Run
test_runs columns indent root sources test =
    rows_shown (runs_row_runs columns root sources (key_column indent test) test)
    (row_runs columns root sources (key_column indent test)) test

-- a test: whether it runs, and its settings
abbrev pub explain_runs : ℕ → List ℕ → List Source → Asked → TestRows → List Run
explain_runs columns root sources asked test =
    test_header_runs columns asked test ++ test_runs columns 0 root sources test

-- the words of a verdict
abbrev pub verdict_text : Verdict → List ℕ
verdict_text verdicts.PlatformNo = codes "platform no"
verdict_text verdicts.FilterNo = codes "filter no"
verdict_text verdicts.SetsNothing = codes "sets nothing"
verdict_text verdicts.DecidedBefore = codes "decided before"
verdict_text verdicts.Decides = codes "decides"
verdict_text verdicts.Fallback = codes "fallback"

-- the style of a verdict
abbrev pub verdict_style : Verdict → Style
verdict_style verdicts.Decides = styles.Good
verdict_style _ = styles.Plain

-- the number of a rule, from 1: the fallback has none
abbrev pub number_run : Verdict → ℕ → Run
number_run verdicts.Fallback n = plain (codes "-")
number_run _ n = numbered (n + 1)

-- what pages show of a condition: that it does not hold, or that this is unknown
abbrev pub reported_answer : ConditionAnswer → Option (List ℕ)
reported_answer answers.No = Some (codes ": no")
reported_answer answers.Unknown = Some (codes ": unknown")
reported_answer _ = None

-- a condition, if pages show something of its result
abbrev pub reported_runs : List ℕ → List ℕ → Option (List ℕ) → List Run
reported_runs word text None = []
reported_runs word text (Some shown) =
    plain (codes "     ") ∷ plain word ∷ plain (codes " ") ∷ plain text ∷ plain shown ∷ ending ∷ []

-- a condition, if it does not hold or is unknown
abbrev pub condition_runs : List ℕ → Condition → List Run
condition_runs word condition =
    reported_runs word (string_bytes condition.text) (reported_answer condition.answer)

-- whether pages show what a rule writes: it decides, or would if no rule before it did
abbrev pub shows_value : Verdict → Bool
shows_value verdicts.PlatformNo = false
shows_value verdicts.FilterNo = false
shows_value verdicts.SetsNothing = false
shows_value verdicts.DecidedBefore = true
shows_value verdicts.Decides = true
shows_value verdicts.Fallback = true

-- a key and a value
abbrev pub value_runs : List ℕ → List ℕ → List Run
value_runs key value =
    plain (codes "     ") ∷ styled styles.Key key ∷ plain (codes " = ") ∷ plain value ∷ ending ∷ []

-- what a rule writes for a setting
abbrev pub written_runs : List ℕ → Verdict → Option (List ℕ) → List Run
written_runs key verdict None = []
written_runs key verdict (Some value) = if shows_value verdict then value_runs key value else []

-- a rule: its number, the verdict, and its origins
abbrev pub verdict_runs : ℕ → ℕ → Verdict → List (List ℕ) → List Run
verdict_runs columns n verdict texts =
    remarked_runs columns
    (number_run verdict n ∷ plain (codes "  ")
    ∷ styled (verdict_style verdict) (verdict_text verdict) ∷ [])
    (record {
      mark = Bare;
      gap = (14 - width (verdict_text verdict)) + 2;
      indent = 5;
      texts = texts;
    })

-- the conditions of a rule
abbrev pub conditions_runs : Rule → List Run
conditions_runs rule =
    condition_runs (codes "host") rule.host
    ++ (condition_runs (codes "target") rule.target ++ condition_runs (codes "filter") rule.filter)

-- a rule: the verdict, the conditions, and what it writes
abbrev pub rule_runs : ℕ → List ℕ → List Source → List ℕ → ℕ → Rule → List Run
rule_runs columns root sources key n rule =
    verdict_runs columns n rule.verdict
    (origin_texts root sources (rule.origin ∷ rule.others.items))
    ++ (conditions_runs rule
    ++ written_runs key rule.verdict (option_map value_text rule.value))

-- rules from a number on
abbrev pub rules_runs : ℕ → List ℕ → List Source → List ℕ → ℕ → List Rule → List Run
rules_runs columns root sources key n [] = []
rules_runs columns root sources key n (rule ∷ rules) =
    rule_runs columns root sources key n rule
    ++ rules_runs columns root sources key (n + 1) rules

-- that a test does not run, if a list says that it is ignored
abbrev pub ignored_runs : Bool → List Run
ignored_runs is_ignored =
    if is_ignored then remark_line (codes "# runs = false: ignored in LIST") else []

-- the page of a key: the rules, and that a list says that the test is ignored, if it does
abbrev pub why_runs : ℕ → List ℕ → List Source → List ℕ → List Rule → Bool → List Run
why_runs columns root sources key rules is_ignored =
    rules_runs columns root sources key 0 rules ++ ignored_runs is_ignored

-- the names of a test
abbrev pub test_line_runs : List ℕ → List ℕ → List Run
test_line_runs binary name = plain binary ∷ plain (codes " ") ∷ plain name ∷ ending ∷ []

-- a test in a list
abbrev pub listed_runs : ℕ → List ℕ → List Source → TestRows → List Run
listed_runs columns root sources test =
    test_line_runs (string_bytes test.binary) (string_bytes test.name)
    ++ test_runs columns 4 root sources test

-- the number of tests
abbrev pub count_runs : ℕ → List Run
count_runs n = plain (codes "tests: ") ∷ numbered n ∷ ending ∷ []

-- the origins of a rule that applies to no test
abbrev pub unused_line_runs : ℕ → List (List ℕ) → List Run
unused_line_runs columns texts =
    remarked_runs columns (plain (codes "unused:") ∷ [])
    (record { mark = Bare; gap = 1; indent = 4; texts = texts })

-- a rule with this origin, which applies to no test
abbrev pub unused_runs : ℕ → List ℕ → List Source → Origin → List Run
unused_runs columns root sources origin =
    unused_line_runs columns (origin_texts root sources (origin ∷ []))

-- the number of tests, and the rules that apply to none of them
abbrev pub list_end_runs : ℕ → List ℕ → List Source → ℕ → List Origin → List Run
list_end_runs columns root sources n unused =
    count_runs n ++ flat_map (unused_runs columns root sources) unused

-- the page of a list: the header, the tests, their number, and the rules that apply to none
abbrev pub list_runs :
    ℕ → List ℕ → List Source → Asked → List TestRows → List Origin → List Run
list_runs columns root sources asked tests unused =
    list_head_runs columns asked
    ++ (flat_map (listed_runs columns root sources) tests
    ++ list_end_runs columns root sources (length tests) unused)

-- how wide the key of a leaf is: 0 if another leaf hides it
abbrev pub entry_width : Entry → ℕ
entry_width entry = if entry.is_hidden then 0 else width (string_bytes entry.key)

-- the width of the widest key of leaves
abbrev pub widest_entry : List Entry → ℕ
widest_entry entries = fold (λ w entry. max w (entry_width entry)) 0 entries

-- a leaf that another one hides
abbrev pub hidden_runs : ℕ → List ℕ → List ℕ → List (List ℕ) → List Run
hidden_runs columns key value texts =
    remarked_runs columns
    (styled styles.Remark (codes "# hidden: " ++ (key ++ (codes " = " ++ value))) ∷ [])
    (record { mark = Comment; gap = 2; indent = 4; texts = texts })

-- the column of the keys of leaves
abbrev pub entry_column : List Entry → KeyColumn
entry_column entries = record { indent = 0; width = widest_entry entries }

-- a leaf
abbrev pub entry_runs : ℕ → List ℕ → List Source → KeyColumn → Entry → List Run
entry_runs columns root sources keys entry =
    if entry.is_hidden
    then hidden_runs columns (string_bytes entry.key) (value_text entry.value)
    (origin_texts root sources (entry.origin ∷ []))
    else setting_runs columns keys (string_bytes entry.key) (Some (value_text entry.value))
    (origin_texts root sources (entry.origin ∷ []))

-- leaves of a configuration
abbrev pub config_runs : ℕ → List ℕ → List Source → List Entry → List Run
config_runs columns root sources entries =
    flat_map (entry_runs columns root sources (entry_column entries)) entries

-- the word of a level
abbrev pub level_word : Level → List ℕ
level_word levels.Error = codes "error"
level_word levels.Warning = codes "warning"

-- the style of a level
abbrev pub level_style : Level → Style
level_style levels.Error = styles.Error
level_style levels.Warning = styles.Warning

-- a colon and a column
abbrev pub column_text : Option ℕ → List ℕ
column_text None = []
column_text (Some column) = codes ":" ++ decimal column

-- a colon, the first of lines, and a column there
abbrev pub line_text : Option FileLines → Option ℕ → List ℕ
line_text None column = []
line_text (Some lines) column = codes ":" ++ (decimal lines.first ++ column_text column)

-- where in its file a finding is: where its range starts, or else the first of its lines, and a
-- column there
abbrev pub spot_text : Option Range → Option FileLines → Option ℕ → List ℕ
spot_text (Some range) lines column = position_text range.start
spot_text None lines column = line_text lines column

-- where a finding is, before its message
abbrev pub finding_place : List ℕ → List Source → Option FilePlace → Option ℕ → List ℕ
finding_place root sources None column = []
finding_place root sources (Some place) column =
    path_at root sources place.source
    ++ (spot_text place.range place.lines column ++ codes ": ")

-- where a finding is, on a row of its own
abbrev pub arrow_runs :
    ℕ → List ℕ → List Source → Option FilePlace → Option ℕ → List Run
arrow_runs w root sources None column = []
arrow_runs w root sources (Some place) column =
    margin_runs w (codes "--> ") ++ plain (path_at root sources place.source
    ++ spot_text place.range place.lines column) ∷ ending ∷ []

-- the level of a finding, and its name in brackets
abbrev pub level_text : Finding → List ℕ
level_text finding =
    level_word finding.level ++ (codes "[" ++ (string_bytes finding.code ++ codes "]"))

-- a place, a level in its style, and a message
abbrev pub head_line_runs : List ℕ → Style → List ℕ → List ℕ → List Run
head_line_runs place style level message =
    plain place ∷ styled style level ∷ plain (codes ": ") ∷ plain message ∷ ending ∷ []

-- the first line of a finding, with this message
abbrev pub head_runs : List ℕ → List Source → Finding → List ℕ → List Run
head_runs root sources finding message =
    head_line_runs (finding_place root sources finding.place finding.column)
    (level_style finding.level) (level_text finding) message

-- how many columns the first characters of a text take on a page
abbrev pub shown_width : List ℕ → ℕ → ℕ
shown_width text n = width (flat_map shown_char (take n (chars text)))

-- carets below the characters of a span, at least one
abbrev pub caret_runs : List ℕ → Option CharSpan → List Run
caret_runs text None = []
caret_runs text (Some span) =
    plain (codes "    ") ∷ repeated 32 (shown_width text span.from)
    ∷ repeated 94 (max 1 (shown_width text span.to - shown_width text span.from)) ∷ ending ∷ []

-- an expression, and carets below its span
abbrev pub expression_runs : Option RefusedExpression → List Run
expression_runs None = []
expression_runs (Some expression) =
    plain (codes "    ") ∷ plain (string_bytes expression.text) ∷ ending
    ∷ caret_runs (string_bytes expression.text) expression.span

-- the expression of a finding, if no line shows it
abbrev pub apart_runs : Finding → List Run
apart_runs finding =
    if has_some finding.lines.items then [] else expression_runs finding.expression

-- a level in its style, and a message
abbrev pub title_line_runs : Style → List ℕ → List ℕ → List Run
title_line_runs style level message =
    styled style level ∷ plain (codes ": ") ∷ plain message ∷ ending ∷ []

-- the first line of a finding on a page: its level, its name and its message
abbrev pub title_runs : Finding → List Run
title_runs finding =
    title_line_runs (level_style finding.level) (level_text finding)
    (string_bytes finding.message)

-- a finding, with a margin of this width: where it is, the lines that show it, remarks, and an
-- empty line
abbrev pub framed_runs : ℕ → List ℕ → List Source → Finding → List Run
framed_runs w root sources finding =
    title_runs finding
    ++ (arrow_runs w root sources finding.place finding.column
    ++ (excerpt_runs w finding
    ++ (apart_runs finding ++ (remarks_runs w finding ++ ending ∷ []))))

-- a finding
abbrev pub finding_runs : List ℕ → List Source → Finding → List Run
finding_runs root sources finding =
    framed_runs (number_width finding.lines.items) root sources finding

-- whether a level refuses
abbrev pub is_refusal : Level → Bool
is_refusal levels.Error = true
is_refusal levels.Warning = false

-- whether a finding refuses
abbrev pub is_error : Finding → Bool
is_error finding = is_refusal finding.level

-- whether a finding only warns
abbrev pub is_warning : Finding → Bool
is_warning finding = not (is_error finding)

-- the checks of a source that were not reached
abbrev pub unreached_text : List ℕ → List Source → Unreached → List ℕ
unreached_text root sources unreached =
    codes "; not reached in " ++ (path_at root sources unreached.source
    ++ (codes ": " ++ joined (codes ", ") string_bytes unreached.checks.items))

-- how many findings refuse, and how many only warn
abbrev pub counts_text : List Finding → List ℕ
counts_text findings =
    codes "errors: " ++ (decimal (count_by is_error findings)
    ++ (codes ", warnings: " ++ decimal (count_by is_warning findings)))

-- how many findings there are, and which checks were not reached
abbrev pub summary_text : Report → List ℕ
summary_text report =
    counts_text report.findings.items
    ++ flat_map (unreached_text (string_bytes report.root) report.sources.items)
    report.unreached.items

-- how many findings a page leaves out
abbrev pub further_runs : ℕ → List Run
further_runs n =
    if n == 0 then []
    else plain (codes "further findings: ") ∷ numbered n ∷ ending ∷ ending ∷ []

-- the first hundred findings, and how many a page leaves out
abbrev pub findings_runs : Report → List Run
findings_runs report =
    flat_map (finding_runs (string_bytes report.root) report.sources.items)
    (take 100 report.findings.items) ++ further_runs (length report.findings.items - 100)

-- a finding on one line, with its advice
abbrev pub concise_line_runs : List ℕ → List Source → Finding → List Run
concise_line_runs root sources finding =
    head_runs root sources finding (message_with_advice finding)

-- the findings, a line each
abbrev pub concise_runs : Report → List Run
concise_runs report =
    flat_map (concise_line_runs (string_bytes report.root) report.sources.items)
    report.findings.items

-- the page of a check: the findings, how many there are, and which checks were not reached
abbrev pub check_runs : Report → List Run
check_runs report = findings_runs report ++ (plain (summary_text report) ∷ ending ∷ [])

-- the page of a command's result, with so many columns
abbrev pub content_runs : ℕ → Report → Content → List Run
content_runs columns report (contents.Explain asked test) =
    explain_runs columns (string_bytes report.root) report.sources.items asked test
content_runs columns report (contents.Why asked test key rules is_ignored) =
    why_runs columns (string_bytes report.root) report.sources.items (string_bytes key)
    rules.items is_ignored
content_runs columns report (contents.List asked tests unused scripts objects) =
    list_runs columns (string_bytes report.root) report.sources.items asked tests.items
    unused.items
content_runs columns report (contents.ShowConfig asked entries) =
    config_runs columns (string_bytes report.root) report.sources.items entries.items
content_runs columns report contents.Check = check_runs report
