use Rattle.std.proofs.Common.{List, ◌++◌, drop}
use Rattle.nextest_places.specs.declared.step.Step.{Step}
use Rattle.nextest_places.specs.Ids.{AreStepsOf}
use Rattle.nextest_places.specs.Standing.{key_path_view}
use Rattle.nextest_places.proofs.order.steps_of.Given as goal

abbrev pub invariant-loop-key : goal.invariant-loop-key
invariant-loop-key l =
    (more : List Step) → AreStepsOf (key_path_view (drop l.key-index l.path)) more
    → AreStepsOf (key_path_view l.path) (l.steps.items ++ more)
