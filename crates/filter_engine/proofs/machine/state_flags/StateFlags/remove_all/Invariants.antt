use Rattle.std.proofs.Common.{◌≡◌, take}
use Rattle.filter_engine.specs.StateLists.{without}
use Rattle.filter_engine.proofs.machine.state_flags.StateFlags.remove_all.Given as goal

abbrev pub invariant-loop-i : goal.invariant-loop-i
invariant-loop-i g l = l.self-inside.flags ≡ without l.fn.self (take l.i l.states)
