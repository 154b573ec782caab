-- Pages say the same for every number of columns.
use Rattle.std.proofs.Common.{◌≡◌, ◌∙◌, ◌+◌, ◌-◌, ℕ, Bool, true, false, cond, List, [], ◌∷◌, ◌++◌, Option, None, Some, ap, codes, flat_map, length, option_map, refl, string_bytes, sym}
use Rattle.std.proofs.lemmas.Str.{IsUtf8-string_bytes}
use Rattle.std.specs.Char.{encode_utf8}
use Rattle.std.specs.Str.{IsUtf8}
use Rattle.std.specs.List.{AllByRecursion}
use Rattle.rinqebo_report.proofs.Solid.{headers_say, page-append, rows_say}
use Rattle.rinqebo_report.proofs.Utf8Texts.{build_utf8, mode_utf8, names_utf8, origins_utf8, platform_utf8, profiles_utf8}
use Rattle.rinqebo_report.specs.declared.layout.KeyColumn.{KeyColumn}
use Rattle.rinqebo_report.specs.declared.layout.Mark.TheVariants.{Bare, Comment}
use Rattle.rinqebo_report.specs.declared.piece.Style.TheVariants as styles
use Rattle.rinqebo_report.specs.declared.origin.Origin.{Origin}
use Rattle.rinqebo_report.specs.declared.origin.Source.{Source}
use Rattle.rinqebo_report.specs.declared.report.Asked.{Asked}
use Rattle.rinqebo_report.specs.declared.report.Content.{Content}
use Rattle.rinqebo_report.specs.declared.report.Content.TheVariants as contents
use Rattle.rinqebo_report.specs.declared.report.Entry.{Entry}
use Rattle.rinqebo_report.specs.declared.report.Report.{Report}
use Rattle.rinqebo_report.specs.declared.report.Rule.{Rule}
use Rattle.rinqebo_report.specs.declared.report.SettingRow.{SettingRow}
use Rattle.rinqebo_report.specs.declared.report.TestRows.{TestRows}
use Rattle.rinqebo_report.specs.declared.report.Verdict.{Verdict}
use Rattle.rinqebo_report.specs.Columns.{solid_page}
use Rattle.rinqebo_report.specs.Groups.{groups_runs, grouped_content_runs}
use Rattle.rinqebo_report.specs.Headers.{build_parts, host_text, list_head_runs, mode_part, names_part, platform_part, profiles_part, test_header_runs}
use Rattle.rinqebo_report.specs.Layout.{Said, width}
use Rattle.rinqebo_report.specs.OriginText.{origin_texts}
use Rattle.rinqebo_report.specs.Pages.{plain, number_run, verdict_text, verdict_style, value_front, value_said, key_column, entry_column, setting_runs, row_runs, runs_said, runs_row_runs, runs_shown, rows_shown, test_runs, test_line_runs, explain_runs, verdict_runs, conditions_runs, written_runs, rule_runs, rules_runs, ignored_runs, why_runs, listed_runs, count_runs, unused_runs, list_end_runs, list_runs, hidden_runs, entry_runs, config_runs, content_runs}
use Rattle.rinqebo_report.specs.Pieces.{Run, styled}
use Rattle.rinqebo_report.specs.TomlText.{value_text}

-- pieces that say the same, and then others that do
both : (a b c d : List Run) → solid_page a ≡ solid_page b → solid_page c ≡ solid_page d
    → solid_page (a ++ c) ≡ solid_page (b ++ d)
both a b c d e f =
    page-append a c ∙ ap (λ t. t ++ solid_page c) e ∙ ap (λ t. solid_page b ++ t) f ∙ sym (page-append b d)

behind : (a c d : List Run) → solid_page c ≡ solid_page d → solid_page (a ++ c) ≡ solid_page (a ++ d)
behind a c d = both a a c d refl

each : {X : Type 0} (f g : X → List Run) → ((x : X) → solid_page (f x) ≡ solid_page (g x)) → (xs : List X)
    → solid_page (flat_map f xs) ≡ solid_page (flat_map g xs)
each {X} f g h [] = refl
each {X} f g h (x ∷ xs) = both (f x) (g x) (flat_map f xs) (flat_map g xs) (h x) (each f g h xs)

settings_say : (n m : ℕ) (keys : KeyColumn) (key : List ℕ) (value : Option (List ℕ)) (texts : List (List ℕ))
    → AllByRecursion IsUtf8 texts
    → solid_page (setting_runs n keys key value texts) ≡ solid_page (setting_runs m keys key value texts)
settings_say n m keys key None texts h = refl
settings_say n m keys key (Some value) texts h =
    rows_say n m (value_front keys key value) (value_said keys value texts) h

row_says : (n m : ℕ) (root : List ℕ) → IsUtf8 root → (sources : List Source) (keys : KeyColumn) (row : SettingRow)
    → solid_page (row_runs n root sources keys row) ≡ solid_page (row_runs m root sources keys row)
row_says n m root r sources keys row =
    settings_say n m keys (string_bytes row.key) (option_map value_text row.value) _
    (origins_utf8 root r sources row.origins.items)

runs_utf8 : (root : List ℕ) → IsUtf8 root → (sources : List Source) (test : TestRows)
    → AllByRecursion IsUtf8 (runs_said root sources test)
unfolding encode_utf8
runs_utf8 root r sources test =
    let others : List (List ℕ) = origin_texts root sources test.runs.origins.items in
    let P : Bool → Type 0 = λ b. AllByRecursion IsUtf8 (cond b (codes "ignored in LIST" ∷ []) others) in
    elim test.is_ignored as P [
      | true ↦ ((codes "ignored in LIST", (refl, refl)), tt)
      | false ↦ origins_utf8 root r sources test.runs.origins.items
    ]

runs_row_says : (n m : ℕ) (root : List ℕ) → IsUtf8 root → (sources : List Source) (keys : KeyColumn) (test : TestRows)
    → solid_page (runs_row_runs n root sources keys test) ≡ solid_page (runs_row_runs m root sources keys test)
runs_row_says n m root r sources keys test =
    settings_say n m keys (string_bytes test.runs.key) (option_map value_text test.runs.value) _
    (runs_utf8 root r sources test)

shown_says : (a b : List Run) (test : TestRows) → solid_page a ≡ solid_page b
    → solid_page (runs_shown a test) ≡ solid_page (runs_shown b test)
shown_says a b test e =
    let P : Bool → Type 0 = λ shows. solid_page (cond shows a []) ≡ solid_page (cond shows b []) in
    elim test.shows_runs as P [ true ↦ e | false ↦ refl ]

tests_say : (n m indent : ℕ) (root : List ℕ) → IsUtf8 root → (sources : List Source) (test : TestRows)
    → solid_page (test_runs n indent root sources test) ≡ solid_page (test_runs m indent root sources test)
tests_say n m indent root r sources test =
    let keys : KeyColumn = key_column indent test in
    let a : List Run = runs_row_runs n root sources keys test in
    let b : List Run = runs_row_runs m root sources keys test in
    both (runs_shown a test) (runs_shown b test) _ _
    (shown_says a b test (runs_row_says n m root r sources keys test))
    (each (row_runs n root sources keys) (row_runs m root sources keys) (row_says n m root r sources keys)
    test.settings.items)

explain_says : (n m : ℕ) (root : List ℕ) → IsUtf8 root → (sources : List Source) (asked : Asked) (test : TestRows)
    → solid_page (explain_runs n root sources asked test) ≡ solid_page (explain_runs m root sources asked test)
explain_says n m root r sources asked test =
    both (test_header_runs n asked test) (test_header_runs m asked test) _ _
    (headers_say n m (names_part test) (profiles_part asked ∷ mode_part asked ∷ platform_part asked test ∷ [])
    (names_utf8 test) (profiles_utf8 asked, (mode_utf8 asked, (platform_utf8 asked test, tt))))
    (tests_say n m 0 root r sources test)

verdict_says : (n m place : ℕ) (verdict : Verdict) (texts : List (List ℕ)) → AllByRecursion IsUtf8 texts
    → solid_page (verdict_runs n place verdict texts) ≡ solid_page (verdict_runs m place verdict texts)
verdict_says n m place verdict texts h =
    let front : List Run = number_run verdict place ∷ plain (codes "  ")
    ∷ styled (verdict_style verdict) (verdict_text verdict) ∷ [] in
    let said : Said = record {
      mark = Bare;
      gap = (14 - width (verdict_text verdict)) + 2;
      indent = 5;
      texts = texts;
    } in
    rows_say n m front said h

unused_says : (n m : ℕ) (root : List ℕ) → IsUtf8 root → (sources : List Source) (origin : Origin)
    → solid_page (unused_runs n root sources origin) ≡ solid_page (unused_runs m root sources origin)
unused_says n m root r sources origin =
    let texts : List (List ℕ) = origin_texts root sources (origin ∷ []) in
    let said : Said = record { mark = Bare; gap = 1; indent = 4; texts = texts } in
    rows_say n m (plain (codes "unused:") ∷ []) said (origins_utf8 root r sources (origin ∷ []))

hidden_says : (n m : ℕ) (key value : List ℕ) (texts : List (List ℕ)) → AllByRecursion IsUtf8 texts
    → solid_page (hidden_runs n key value texts) ≡ solid_page (hidden_runs m key value texts)
hidden_says n m key value texts h =
    let front : List Run =
    styled styles.Remark (codes "# hidden: " ++ (key ++ (codes " = " ++ value))) ∷ [] in
    let said : Said = record { mark = Comment; gap = 2; indent = 4; texts = texts } in
    rows_say n m front said h

rule_says : (n m : ℕ) (root : List ℕ) → IsUtf8 root → (sources : List Source) (key : List ℕ) (place : ℕ) (rule : Rule)
    → solid_page (rule_runs n root sources key place rule) ≡ solid_page (rule_runs m root sources key place rule)
rule_says n m root r sources key place rule =
    let texts : List (List ℕ) = origin_texts root sources (rule.origin ∷ rule.others.items) in
    let rest : List Run = conditions_runs rule ++ written_runs key rule.verdict (option_map value_text rule.value) in
    both (verdict_runs n place rule.verdict texts) (verdict_runs m place rule.verdict texts) rest rest
    (verdict_says n m place rule.verdict texts (origins_utf8 root r sources (rule.origin ∷ rule.others.items))) refl

rules_say : (n m : ℕ) (root : List ℕ) → IsUtf8 root → (sources : List Source) (key : List ℕ) (place : ℕ)
    (rules : List Rule)
    → solid_page (rules_runs n root sources key place rules) ≡ solid_page (rules_runs m root sources key place rules)
rules_say n m root r sources key place [] = refl
rules_say n m root r sources key place (rule ∷ rules) =
    both (rule_runs n root sources key place rule) (rule_runs m root sources key place rule) _ _
    (rule_says n m root r sources key place rule) (rules_say n m root r sources key (place + 1) rules)

why_says : (n m : ℕ) (root : List ℕ) → IsUtf8 root → (sources : List Source) (key : List ℕ) (rules : List Rule)
    (is_ignored : Bool)
    → solid_page (why_runs n root sources key rules is_ignored) ≡ solid_page (why_runs m root sources key rules is_ignored)
why_says n m root r sources key rules is_ignored =
    both (rules_runs n root sources key 0 rules) (rules_runs m root sources key 0 rules)
    (ignored_runs is_ignored) (ignored_runs is_ignored) (rules_say n m root r sources key 0 rules) refl

list_head_says : (n m : ℕ) (asked : Asked) → solid_page (list_head_runs n asked) ≡ solid_page (list_head_runs m asked)
list_head_says n m asked =
    headers_say n m (profiles_part asked)
    (mode_part asked ∷ build_parts (host_text asked) (option_map string_bytes asked.target)) (profiles_utf8 asked)
    (mode_utf8 asked, build_utf8 asked)

list_end_says : (n m : ℕ) (root : List ℕ) → IsUtf8 root → (sources : List Source) (count : ℕ) (unused : List Origin)
    → solid_page (list_end_runs n root sources count unused) ≡ solid_page (list_end_runs m root sources count unused)
list_end_says n m root r sources count unused =
    behind (count_runs count) (flat_map (unused_runs n root sources) unused)
    (flat_map (unused_runs m root sources) unused)
    (each (unused_runs n root sources) (unused_runs m root sources) (unused_says n m root r sources) unused)

listed_says : (n m : ℕ) (root : List ℕ) → IsUtf8 root → (sources : List Source) (test : TestRows)
    → solid_page (listed_runs n root sources test) ≡ solid_page (listed_runs m root sources test)
listed_says n m root r sources test =
    behind (test_line_runs (string_bytes test.binary) (string_bytes test.name)) (test_runs n 4 root sources test)
    (test_runs m 4 root sources test) (tests_say n m 4 root r sources test)

-- a list, whose tests are shown by pieces that say the same
page_of_list : (n m : ℕ) (root : List ℕ) → IsUtf8 root → (sources : List Source) (asked : Asked) (count : ℕ)
    (unused : List Origin) (a b : List Run) → solid_page a ≡ solid_page b
    → solid_page (list_head_runs n asked ++ (a ++ list_end_runs n root sources count unused))
    ≡ solid_page (list_head_runs m asked ++ (b ++ list_end_runs m root sources count unused))
page_of_list n m root r sources asked count unused a b e =
    let before : List Run = list_end_runs n root sources count unused in
    let after : List Run = list_end_runs m root sources count unused in
    both (list_head_runs n asked) (list_head_runs m asked) (a ++ before) (b ++ after) (list_head_says n m asked)
    (both a b before after e (list_end_says n m root r sources count unused))

entry_says : (n m : ℕ) (root : List ℕ) → IsUtf8 root → (sources : List Source) (keys : KeyColumn) (entry : Entry)
    → solid_page (entry_runs n root sources keys entry) ≡ solid_page (entry_runs m root sources keys entry)
entry_says n m root r sources keys entry =
    let key : List ℕ = string_bytes entry.key in
    let value : List ℕ = value_text entry.value in
    let texts : List (List ℕ) = origin_texts root sources (entry.origin ∷ []) in
    let h : AllByRecursion IsUtf8 texts = origins_utf8 root r sources (entry.origin ∷ []) in
    let P : Bool → Type 0 = λ b.
    solid_page (cond b (hidden_runs n key value texts) (setting_runs n keys key (Some value) texts))
    ≡ solid_page (cond b (hidden_runs m key value texts) (setting_runs m keys key (Some value) texts)) in
    elim entry.is_hidden as P [
      | true ↦ hidden_says n m key value texts h
      | false ↦ settings_say n m keys key (Some value) texts h
    ]

pub pages_say : (n m : ℕ) (report : Report) (content : Content)
    → solid_page (content_runs n report content) ≡ solid_page (content_runs m report content)
pages_say n m report (contents.Explain asked test) =
    explain_says n m (string_bytes report.root) (IsUtf8-string_bytes report.root) report.sources.items asked test
pages_say n m report (contents.Why asked test key rules is_ignored) =
    why_says n m (string_bytes report.root) (IsUtf8-string_bytes report.root) report.sources.items (string_bytes key)
    rules.items is_ignored
pages_say n m report (contents.List asked tests unused scripts objects) =
    let root : List ℕ = string_bytes report.root in
    let r : IsUtf8 root = IsUtf8-string_bytes report.root in
    let sources : List Source = report.sources.items in
    page_of_list n m root r sources asked (length tests.items) unused.items
    (flat_map (listed_runs n root sources) tests.items) (flat_map (listed_runs m root sources) tests.items)
    (each (listed_runs n root sources) (listed_runs m root sources) (listed_says n m root r sources) tests.items)
pages_say n m report (contents.ShowConfig asked entries) =
    let root : List ℕ = string_bytes report.root in
    let sources : List Source = report.sources.items in
    let keys : KeyColumn = entry_column entries.items in
    each (entry_runs n root sources keys) (entry_runs m root sources keys)
    (entry_says n m root (IsUtf8-string_bytes report.root) sources keys) entries.items
pages_say n m report contents.Check = refl

pub groups_say : (n m : ℕ) (report : Report) (content : Content)
    → solid_page (grouped_content_runs n report content) ≡ solid_page (grouped_content_runs m report content)
groups_say n m report (contents.Explain asked test) = pages_say n m report (contents.Explain asked test)
groups_say n m report (contents.Why asked test key rules is_ignored) =
    pages_say n m report (contents.Why asked test key rules is_ignored)
groups_say n m report (contents.List asked tests unused scripts objects) =
    let runs : List Run = groups_runs tests.items in
    page_of_list n m (string_bytes report.root) (IsUtf8-string_bytes report.root) report.sources.items asked
    (length tests.items) unused.items runs runs refl
groups_say n m report (contents.ShowConfig asked entries) = pages_say n m report (contents.ShowConfig asked entries)
groups_say n m report contents.Check = refl
