use Rattle.std.proofs.Common.{◌≡◌, drop, map}
use Rattle.nextest_shape.specs.View.{shape_view}
use Rattle.rinqebo_faults.specs.Shapes.{form_at, key_of}
use Rattle.rinqebo_faults.proofs.shapes.shape_at.Given as goal

abbrev pub invariant-loop-step : goal.invariant-loop-step
invariant-loop-step l =
    form_at (map key_of (drop l.step-index l.path)) (shape_view l.wanted)
    ≡ form_at (map key_of l.path) (shape_view l.shape)
