use Rattle.std.proofs.Common.{◌≡◌, ◌++◌, ℕ, List, map, drop}
use Rattle.std.specs.List.{list_any}
use Rattle.nextest_scripts.specs.ScriptId.{script_text}
use Rattle.nextest_settings.specs.Engines.{test_query_by}
use Rattle.nextest_settings.specs.Queries.{is_enabled_for}
use Rattle.nextest_settings.specs.SetupView.{numbered_rule_view}
use Rattle.nextest_settings.proofs.setup_scripts.is_enabled_by_some.Given as goal

abbrev pub invariant-loop-query : goal.invariant-loop-query
invariant-loop-query g l =
    let F = g.F.Filters in
    let numbers = g.F.Tally.Tally.numbers in
    record {
      answer : list_any (λ query. is_enabled_for query (map (numbered_rule_view F.meaning) l.rules)
          (script_text l.id)) (map (test_query_by F l.cx.default_filter.now) (drop l.query-index l.queries))
          ≡ list_any (λ query. is_enabled_for query (map (numbered_rule_view F.meaning) l.rules)
          (script_text l.id)) (map (test_query_by F l.cx.default_filter.now) l.queries);
      tally : (added : List ℕ) × (numbers l.tally ≡ numbers l.fn.tally ++ added);
    }
