use Rattle.nextest_settings.proofs.RulesAreInOrder.{in_place_order}
use Rattle.nextest_settings.proofs.laws.law_rule_order.Goals as goal

pub returns-clause-overrides : goal.returns-clause-overrides
returns-clause-overrides g c = λ layers names. in_place_order (λ p. p.overrides) layers names

pub returns-clause-script_rules : goal.returns-clause-script_rules
returns-clause-script_rules g c = λ layers names. in_place_order (λ p. p.script_rules) layers names
