use Rattle.std.proofs.Common.{◌≡◌, ◌++◌, drop, map}
use Rattle.rinqebo_faults.specs.Tables.{part_text}
use Rattle.rinqebo_faults.proofs.tables.keys_at.Given as goal

abbrev pub invariant-loop-step : goal.invariant-loop-step
invariant-loop-step l =
    map (λ part. part.now) l.parts.items ++ map part_text (drop l.step-index l.path)
    ≡ map part_text l.path
