use Rattle.rinqebo_changes.proofs.EqualRows.{alike_none}
use Rattle.rinqebo_changes.proofs.laws.law_keyed.Goals as goal

pub returns : goal.returns
returns c = alike_none
