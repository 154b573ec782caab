use Rattle.std.proofs.Common.{map, ◌∷◌, [], is_some}
use Rattle.nextest_rules.specs.Rules.{ScriptRuleUse}
use Rattle.nextest_elements.specs.Settings.{settings}
use Rattle.nextest_settings.specs.Settings.{is_set}
use Rattle.nextest_settings.proofs.Rising.{all_rise, others_rise}
use Rattle.nextest_settings.proofs.laws.law_evaluated_at_most_once.Goals as goal

pub returns-clause-test : goal.returns-clause-test
returns-clause-test g c =
    λ query mode p. all_rise p.overrides p.script_rules (map (λ s w. is_set w.settings mode s) settings)
    ((λ (w : ScriptRuleUse). is_some w.scripts.run_wrapper) ∷ []) query

pub returns-clause-list : goal.returns-clause-list
returns-clause-list g c =
    λ query p. others_rise p.overrides p.script_rules [] ((λ (w : ScriptRuleUse). is_some w.scripts.list_wrapper) ∷ []) query
