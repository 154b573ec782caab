use Rattle.std.proofs.Common.{◌+◌, ◌*◌, length}
use Rattle.nextest_places.proofs.branch.+add.Given as goal

abbrev pub decreases-add : goal.decreases-add
decreases-add l = 2 * length l.parts.now

abbrev pub decreases-add_longer : goal.decreases-add_longer
decreases-add_longer l = 2 * length l.rest.now + 1
