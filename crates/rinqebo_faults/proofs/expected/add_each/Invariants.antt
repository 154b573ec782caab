use Rattle.std.proofs.Common.{◌≡◌, drop, map, string_bytes}
use Rattle.nextest_shape.specs.View.{shapes_view}
use Rattle.rinqebo_faults.specs.Expected.{with_each}
use Rattle.rinqebo_faults.proofs.expected.add_each.Given as goal

abbrev pub invariant-loop-shape : goal.invariant-loop-shape
invariant-loop-shape l =
    with_each (map string_bytes l.words.items) (shapes_view (drop l.shape-index l.shape-items))
    ≡ with_each (map string_bytes l.initial.words.items) (shapes_view l.shape-items)
