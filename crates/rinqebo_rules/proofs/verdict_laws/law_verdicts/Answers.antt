use Rattle.rinqebo_rules.proofs.VerdictsOf.{verdicts-nth, verdicts-winner, verdicts-none, verdicts-facts}
use Rattle.rinqebo_rules.proofs.verdict_laws.law_verdicts.Goals as goal

pub returns-clause-nth : goal.returns-clause-nth
returns-clause-nth g c = λ query wants rules n rule at. verdicts-nth query wants rules n rule at

pub returns-clause-winner : goal.returns-clause-winner
returns-clause-winner g c = λ query wants rules n e. verdicts-winner query wants rules n e

pub returns-clause-none : goal.returns-clause-none
returns-clause-none g c = λ query wants rules. verdicts-none query wants rules

pub returns-clause-facts : goal.returns-clause-facts
returns-clause-facts g c = λ query wants rules. verdicts-facts query wants rules
