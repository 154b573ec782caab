use Rattle.std.proofs.Common.{◌≡◌, ◌++◌, ℕ, List, map}
use Rattle.nextest_scripts.specs.ScriptId.{script_text}
use Rattle.nextest_scripts.specs.ScriptTexts.{setup_script_view}
use Rattle.nextest_settings.specs.Engines.{test_query_by}
use Rattle.nextest_settings.specs.Queries.{enabled_by}
use Rattle.nextest_settings.specs.SetupView.{numbered_rule_view, named_setup_script_view}
use Rattle.nextest_settings.proofs.setup_scripts.enabled_scripts.Given as goal

abbrev pub invariant-loop-id : goal.invariant-loop-id
invariant-loop-id g l =
    let F = g.F.Filters in
    let numbers = g.F.Tally.Tally.numbers in
    let queries = map (test_query_by F l.cx.default_filter.now) l.queries in
    let rules = map (numbered_rule_view F.meaning) l.rules in
    record {
      found : map named_setup_script_view l.found.items
          ++ enabled_by queries rules (map (λ e. (script_text e.0, setup_script_view e.1)) l.id-iterator)
          ≡ enabled_by queries rules (map (λ e. (script_text e.0, setup_script_view e.1)) l.scripts.setup.entries);
      tally : (added : List ℕ) × (numbers l.tally ≡ numbers l.fn.tally ++ added);
    }
