use Rattle.std.proofs.Common.{◌≡◌, map, drop}
use Rattle.nextest_settings.specs.Engines.{test_query_by}
use Rattle.nextest_settings.specs.Queries.{wrapping_rule}
use Rattle.nextest_settings.specs.View.{meant_script_rule}
use Rattle.rinqebo_objects.proofs.wrappers.run_wrapper_by.Given as goal

-- the first of the rules that are left is the first of all
abbrev pub invariant-loop-rule : goal.invariant-loop-rule
invariant-loop-rule g l =
    let F = g.F.Filters in
    let query = test_query_by F l.cx.default_filter.now l.query in
    wrapping_rule query (map (meant_script_rule F.meaning) (drop l.rule-index l.rules))
    ≡ wrapping_rule query (map (meant_script_rule F.meaning) l.rules)
