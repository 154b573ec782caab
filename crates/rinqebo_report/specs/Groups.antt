-- Pages that put tests together where they show the same of them.
use Rattle.std.specs.Prelude.{ℕ, zero, suc, List, [], ◌∷◌, ◌++◌, Bool, Option, None, Some, option_map, length, filter, map, flat_map, fold, codes, string_bytes, if◌then◌else◌}
use Rattle.std.specs.List.{list_any}
use Rattle.std.specs.Str.{bytes_eq}
use Rattle.rinqebo_report.specs.declared.origin.Origin.{Origin}
use Rattle.rinqebo_report.specs.declared.origin.Source.{Source}
use Rattle.rinqebo_report.specs.declared.piece.Colour.TheVariants as colours
use Rattle.rinqebo_report.specs.declared.piece.Style.TheVariants as styles
use Rattle.rinqebo_report.specs.declared.report.Asked.{Asked}
use Rattle.rinqebo_report.specs.declared.report.Content.{Content}
use Rattle.rinqebo_report.specs.declared.report.Content.TheVariants as contents
use Rattle.rinqebo_report.specs.declared.report.Report.{Report}
use Rattle.rinqebo_report.specs.declared.report.SettingRow.{SettingRow}
use Rattle.rinqebo_report.specs.declared.report.TestRows.{TestRows}
use Rattle.rinqebo_report.specs.Headers.{list_head_runs}
use Rattle.rinqebo_report.specs.Pages.{plain, absent_runs, rows_shown, test_line_runs, list_end_runs, content_runs}
use Rattle.rinqebo_report.specs.Pieces.{Run, styled, ending, page_text}
use Rattle.rinqebo_report.specs.TomlText.{canonical_text}

-- a setting and its value, or that it has none
abbrev pub reported_line_runs : List ℕ → Option (List ℕ) → List Run
reported_line_runs key (Some value) =
    styled styles.Key key ∷ plain (codes " = ") ∷ plain value ∷ ending ∷ []
reported_line_runs key None = absent_runs key

-- what a page shows of a setting, the same however files write its durations
abbrev pub reported_row_runs : SettingRow → List Run
reported_row_runs row =
    reported_line_runs (string_bytes row.key) (option_map canonical_text row.value)

-- what a page shows of a test, a line for each row
abbrev pub reported_runs : TestRows → List Run
reported_runs test = rows_shown (reported_row_runs test.runs) reported_row_runs test

-- what a page shows of a test, as a text
abbrev pub reported_text : TestRows → List ℕ
reported_text test = page_text colours.Plain (reported_runs test)

-- whether a text is what a page shows of a test
abbrev pub has_reported : List ℕ → TestRows → Bool
has_reported text test = bytes_eq (reported_text test) text

-- tests, and another one, if what a page shows of it differs from what it shows of each of them
abbrev pub with_first : List TestRows → TestRows → List TestRows
with_first found test =
    if list_any (has_reported (reported_text test)) found then found else found ++ test ∷ []

-- of tests the first of each text that a page shows of one, in their order
abbrev pub firsts : List TestRows → List TestRows
firsts tests = fold with_first [] tests

-- the tests of each group: all of which a page shows the same, in the order of the first of each
abbrev pub test_groups : List TestRows → List (List TestRows)
test_groups tests =
    map (λ first. filter (has_reported (reported_text first)) tests) (firsts tests)

-- groups, after one more comes last in the group at an index, or in a new group behind them
abbrev pub with_member : {A : Type 0} → List (List A) → ℕ → A → List (List A)
with_member [] n more = (more ∷ []) ∷ []
with_member (group ∷ groups) zero more = (group ++ more ∷ []) ∷ groups
with_member (group ∷ groups) (suc n) more = group ∷ with_member groups n more

-- a test of a group, indented by four spaces
abbrev pub grouped_test_runs : TestRows → List Run
grouped_test_runs test =
    plain (codes "    ") ∷ test_line_runs (string_bytes test.binary) (string_bytes test.name)

-- the group of a test: what a page shows of it, and all tests of which it shows the same
abbrev pub group_runs : List TestRows → TestRows → List Run
group_runs tests first =
    reported_runs first
    ++ flat_map grouped_test_runs (filter (has_reported (reported_text first)) tests)

-- the tests of a group: what a page shows of the first, and each of them
abbrev pub members_runs : List TestRows → List Run
members_runs [] = []
members_runs (first ∷ others) =
    reported_runs first ++ flat_map grouped_test_runs (first ∷ others)

-- tests in groups, in the order of the first test of each
abbrev pub groups_runs : List TestRows → List Run
groups_runs tests = flat_map (group_runs tests) (firsts tests)

-- the header, tests in groups, the number of tests, and the rules that apply to none
abbrev pub grouped_runs :
    ℕ → List ℕ → List Source → Asked → List TestRows → List Origin → List Run
grouped_runs columns root sources asked tests unused =
    list_head_runs columns asked
    ++ (groups_runs tests ++ list_end_runs columns root sources (length tests) unused)

-- the page of what a command returns, with the tests of a list in groups
abbrev pub grouped_content_runs : ℕ → Report → Content → List Run
grouped_content_runs columns report (contents.List asked tests unused scripts objects) =
    grouped_runs columns (string_bytes report.root) report.sources.items asked tests.items
    unused.items
grouped_content_runs columns report content = content_runs columns report content
