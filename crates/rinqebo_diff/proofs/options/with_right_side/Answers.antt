use Rattle.std.proofs.Common.{refl}
use Rattle.rinqebo_diff.proofs.options.with_right_side.Goals as goal

pub returns : goal.returns
returns c = c.with_options.ensures refl
