use Rattle.std.proofs.Common.{◌≡◌, ◌++◌, drop, map}
use Rattle.nextest_places.specs.Spans.Paths.{path_step}
use Rattle.nextest_places.specs.Spans.Paths as paths
use Rattle.rinqebo_faults.proofs.paths.parted.Given as goal

abbrev pub invariant-loop-part : goal.invariant-loop-part
invariant-loop-part l =
    map path_step l.steps.items ++ map paths.key (map (λ part. part.now) (drop l.part-index l.part-items))
    ≡ map paths.key (map (λ part. part.now) l.part-items)
