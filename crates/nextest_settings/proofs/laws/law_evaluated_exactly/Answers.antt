use Rattle.std.proofs.Common.{◌∷◌, [], is_some, length}
use Rattle.nextest_rules.specs.Rules.{ScriptRuleUse}
use Rattle.nextest_settings.proofs.IsEvaluated.{asked_evaluated, evaluated_asked, asked_count}
use Rattle.nextest_settings.proofs.IsEvaluatedForTest.{one_there, test_exactly, test_count}
use Rattle.nextest_settings.proofs.laws.law_evaluated_exactly.Goals as goal

pub returns-clause-test : goal.returns-clause-test
returns-clause-test g c = λ query mode p n. test_exactly query mode p n

pub returns-clause-test_count : goal.returns-clause-test_count
returns-clause-test_count g c = λ query mode p. test_count query mode p

pub returns-clause-list : goal.returns-clause-list
returns-clause-list g c = λ query p n. (
  asked_evaluated (λ (u : Unit {0}) (w : ScriptRuleUse). is_some w.scripts.list_wrapper) (tt ∷ []) query p.script_rules
      one_there (length p.overrides) n,
  λ e. evaluated_asked (λ (u : Unit {0}) (w : ScriptRuleUse). is_some w.scripts.list_wrapper) (tt ∷ []) query
      p.script_rules one_there (length p.overrides) n e.0 e.1 e.2,
)

pub returns-clause-list_count : goal.returns-clause-list_count
returns-clause-list_count g c =
    λ query p. asked_count ((λ (w : ScriptRuleUse). is_some w.scripts.list_wrapper) ∷ []) query (length p.overrides) p.script_rules
