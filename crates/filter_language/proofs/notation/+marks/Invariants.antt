use Rattle.std.proofs.Common.{◌+◌, ◌*◌, length}
use Rattle.filter_language.proofs.notation.+marks.Given as goal

abbrev pub decreases-write_joint : goal.decreases-write_joint
decreases-write_joint g l = 2 * length l.marks.now

abbrev pub decreases-write_marks : goal.decreases-write_marks
decreases-write_marks g l = 2 * length l.marks.now + 1
