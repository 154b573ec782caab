use Rattle.std.proofs.Common.{◌≡◌, ◌++◌, ℕ, List, map, drop}
use Rattle.nextest_scripts.specs.ScriptId.{script_text}
use Rattle.nextest_settings.specs.Engines.{test_query_by}
use Rattle.nextest_settings.specs.Queries.{is_enabled_for}
use Rattle.nextest_settings.specs.SetupView.{numbered_rule_view}
use Rattle.nextest_settings.proofs.setup_scripts.is_enabled.Given as goal

abbrev pub invariant-loop-numbered : goal.invariant-loop-numbered
invariant-loop-numbered g l =
    let F = g.F.Filters in
    let numbers = g.F.Tally.Tally.numbers in
    let query = test_query_by F l.cx.default_filter.now l.query in
    record {
      answer : is_enabled_for query (map (numbered_rule_view F.meaning) (drop l.numbered-index l.rules))
          (script_text l.id)
          ≡ is_enabled_for query (map (numbered_rule_view F.meaning) l.rules) (script_text l.id);
      tally : (added : List ℕ) × (numbers l.tally ≡ numbers l.fn.tally ++ added);
    }
