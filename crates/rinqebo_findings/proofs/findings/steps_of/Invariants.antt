use Rattle.std.proofs.Common.{◌≡◌, ◌++◌, drop, map}
use Rattle.nextest_places.specs.Spans.Paths.{path_step}
use Rattle.rinqebo_findings.specs.Subjects.{step_view}
use Rattle.rinqebo_findings.proofs.findings.steps_of.Given as goal

abbrev pub invariant-loop-step : goal.invariant-loop-step
invariant-loop-step l =
    map step_view l.steps.items ++ map path_step (drop l.step-index l.path) ≡ map path_step l.path
