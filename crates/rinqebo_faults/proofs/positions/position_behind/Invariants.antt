use Rattle.std.proofs.Common.{◌≡◌}
use Rattle.std.specs.Prelude.{fold}
use Rattle.rinqebo_faults.specs.Positions.{behind_char}
use Rattle.rinqebo_faults.proofs.positions.position_behind.Given as goal

abbrev pub invariant-loop-c : goal.invariant-loop-c
invariant-loop-c l = l.behind ≡ fold behind_char l.fn.start l.yielded
