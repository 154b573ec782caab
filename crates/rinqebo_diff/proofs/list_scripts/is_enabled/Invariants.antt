use Rattle.std.proofs.Common.{◌≡◌, map, drop}
use Rattle.nextest_scripts.specs.ScriptId.{script_text}
use Rattle.nextest_settings.specs.Engines.{test_query_by}
use Rattle.nextest_settings.specs.Queries.{is_enabled_for}
use Rattle.nextest_settings.specs.View.{meant_script_rule}
use Rattle.rinqebo_diff.proofs.list_scripts.is_enabled.Given as goal

-- the rules that are left are those that decide
abbrev pub invariant-loop-rule : goal.invariant-loop-rule
invariant-loop-rule g l =
    let F = g.F.Filters in
    let query = test_query_by F l.cx.default_filter.now l.query in
    is_enabled_for query (map (meant_script_rule F.meaning) (drop l.rule-index l.rules)) (script_text l.id)
    ≡ is_enabled_for query (map (meant_script_rule F.meaning) l.rules) (script_text l.id)
