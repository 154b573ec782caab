use Rattle.std.proofs.Common.{◌≡◌, ◌++◌, drop, map}
use Rattle.std.specs.Prelude.{filter_map}
use Rattle.rinqebo_faults.specs.Shapes.{key_of}
use Rattle.rinqebo_faults.proofs.headers.keys_of.Given as goal

abbrev pub invariant-loop-step : goal.invariant-loop-step
invariant-loop-step l =
    map (λ key. key.now) l.keys.items ++ filter_map key_of (drop l.step-index l.path)
    ≡ filter_map key_of l.path
