use Rattle.std.proofs.Common.{◌≡◌, ◌++◌, drop}
use Rattle.rinqebo_faults.proofs.tables.longer.Given as goal

abbrev pub invariant-loop-step : goal.invariant-loop-step
invariant-loop-step l = l.longer.items ++ drop l.step-index l.rest ≡ l.path ++ l.rest
