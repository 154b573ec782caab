use Rattle.rinqebo_laws.proofs.RuleVerdicts.{judged_by_none, judged_by_rule}
use Rattle.rinqebo_laws.specs.Verdicts.{judged_rules}
use Rattle.rinqebo_rules.proofs.VerdictsOf.{verdicts-nth}
use Rattle.rinqebo_rules.specs.SettingRules.{writes_it}
use Rattle.rinqebo_laws.proofs.verdicts.law_rule_verdicts.Goals as goal

pub returns : goal.returns
returns c = record {
  nth = λ j s n rule at. verdicts-nth j.query writes_it (judged_rules j s) n rule at;
  decided = judged_by_rule;
  none = judged_by_none;
}
