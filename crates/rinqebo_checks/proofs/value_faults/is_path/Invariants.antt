use Rattle.std.proofs.Common.{◌≡◌, map, take}
use Rattle.nextest_places.specs.Spans.Paths.{path_step}
use Rattle.rinqebo_checks.proofs.value_faults.is_path.Given as goal

-- the paths are the same so far
abbrev pub invariant-loop-place : goal.invariant-loop-place
invariant-loop-place l = map path_step (take l.place l.one) ≡ map path_step (take l.place l.other)
