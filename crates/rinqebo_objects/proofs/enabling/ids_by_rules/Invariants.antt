use Rattle.std.proofs.Common.{◌≡◌, map, take}
use Rattle.nextest_scripts.specs.ScriptId.{script_text}
use Rattle.nextest_settings.specs.Engines.{test_query_by}
use Rattle.nextest_settings.specs.Queries.{is_enabled_for}
use Rattle.nextest_settings.specs.View.{meant_script_rule}
use Rattle.nextest_tables.specs.Written.{Name}
use Rattle.nextest_tree.specs.Schema.{is_one_of}
use Rattle.rinqebo_objects.proofs.enabling.ids_by_rules.Given as goal

-- the ids so far are those that the rules so far enable
abbrev pub invariant-loop-rule : goal.invariant-loop-rule
invariant-loop-rule g l =
    let F = g.F.Filters in
    let query = test_query_by F l.cx.default_filter.now l.query in
    (id : Name) → is_one_of (map (λ id. script_text id.now) l.ids.items) id
    ≡ is_enabled_for query (take l.rule-index (map (meant_script_rule F.meaning) l.rules)) id
