use Rattle.std.proofs.Common.{refl}
use Rattle.nextest_elements.proofs.test_priority.TestPriorityDefault.default.Goals as goal

pub returns : goal.returns
returns c = refl
