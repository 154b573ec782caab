use Rattle.std.proofs.Common.{◌≡◌, ◌++◌, drop}
use Rattle.nextest_shape.specs.View.{shapes_view}
use Rattle.rinqebo_faults.specs.Hints.{texts, words_of_each}
use Rattle.rinqebo_faults.proofs.hints.words_of_each.Given as goal

abbrev pub invariant-loop-shape : goal.invariant-loop-shape
invariant-loop-shape l =
    texts l.words.items ++ words_of_each (shapes_view (drop l.shape-index l.shape-items))
    ≡ words_of_each (shapes_view l.shape-items)
