use Rattle.rinqebo_changes.proofs.sides.Own.{own_tests}
use Rattle.rinqebo_changes.proofs.sides.laws.law_own_tests.Goals as goal

pub returns : goal.returns
returns c tests pairs once are = own_tests tests pairs once are
