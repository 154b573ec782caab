use Rattle.rinqebo_changes.proofs.SameValues.{setting_decides}
use Rattle.rinqebo_changes.proofs.laws.law_values.Goals as goal

pub returns : goal.returns
returns c = setting_decides c.args.a.now c.args.b.now
