use Rattle.std.proofs.Common.{refl}
use Rattle.nextest_elements.specs.Settings.{settings}
use Rattle.nextest_elements.proofs.StandsOnce.{stands_once}
use Rattle.nextest_settings.proofs.laws.law_all_settings.Goals as goal

pub returns-clause-order : goal.returns-clause-order
unfolding settings
returns-clause-order c = refl

pub returns-clause-once : goal.returns-clause-once
returns-clause-once c = λ s. stands_once s
