use Rattle.std.proofs.Common.{◌≡◌, drop, map, string_bytes}
use Rattle.std.specs.Prelude.{fold}
use Rattle.nextest_places.specs.Spans.Paths.{path_step}
use Rattle.rinqebo_faults.specs.Edits.{mark_below, mark_of}
use Rattle.rinqebo_faults.proofs.edits.mark_of.Given as goal

abbrev pub invariant-loop-step : goal.invariant-loop-step
invariant-loop-step l =
    fold mark_below (string_bytes l.mark) (map path_step (drop l.step-index l.path))
    ≡ mark_of l.place (map path_step l.path)
