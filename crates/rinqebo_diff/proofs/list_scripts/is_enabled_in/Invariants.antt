use Rattle.std.proofs.Common.{◌≡◌, map, drop}
use Rattle.std.specs.List.{list_any}
use Rattle.filter_inputs.specs.Lists.Lists.{test_of}
use Rattle.filter_inputs.specs.Lists.ListView.{binary_view, case_view}
use Rattle.nextest_scripts.specs.ScriptId.{script_text}
use Rattle.nextest_settings.specs.Queries.{is_enabled_for}
use Rattle.nextest_settings.specs.View.{meant_script_rule}
use Rattle.rinqebo_diff.specs.ListScripts.{judged}
use Rattle.rinqebo_diff.proofs.list_scripts.is_enabled_in.Given as goal

-- the tests that are left are those that decide
abbrev pub invariant-loop-case : goal.invariant-loop-case
invariant-loop-case g l =
    let F = g.F.Filters in
    let rules = map (meant_script_rule F.meaning) l.rules in
    let default = F.meaning l.cx.default_filter.now in
    let tests = map (test_of (binary_view l.binary)) (map case_view l.binary.tests.items) in
    let left = map (test_of (binary_view l.binary)) (map case_view (drop l.case-index l.binary.tests.items)) in
    list_any (λ query. is_enabled_for query rules (script_text l.id)) (judged F.holds default left)
    ≡ list_any (λ query. is_enabled_for query rules (script_text l.id)) (judged F.holds default tests)
