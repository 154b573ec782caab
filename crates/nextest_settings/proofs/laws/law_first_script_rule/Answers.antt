use Rattle.nextest_settings.specs.Deciding.{decides}
use Rattle.nextest_settings.proofs.StandsFirst.{find-least, find-none}
use Rattle.nextest_settings.proofs.laws.law_first_script_rule.Goals as goal

pub returns-clause-some : goal.returns-clause-some
returns-clause-some g c = λ query wants rules. find-least (decides query wants) rules

pub returns-clause-none : goal.returns-clause-none
returns-clause-none g c = λ query wants rules n r none at. find-none (decides query wants) rules n r none at
