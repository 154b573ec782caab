use Rattle.rinqebo_rules.proofs.Selecting.{unused_selected}
use Rattle.rinqebo_rules.proofs.unused_laws.law_unused.Goals as goal

pub returns-clause-overrides : goal.returns-clause-overrides
returns-clause-overrides g c = λ tests rules. unused_selected tests rules

pub returns-clause-script_rules : goal.returns-clause-script_rules
returns-clause-script_rules g c = λ tests rules. unused_selected tests rules
