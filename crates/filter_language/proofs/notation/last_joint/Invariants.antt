use Rattle.std.proofs.Common.{◌<◌, length, IfSome}
use Rattle.filter_language.proofs.notation.last_joint.Given as goal

abbrev pub invariant-loop-place : goal.invariant-loop-place
invariant-loop-place g l = IfSome l.last (λ place. place < length l.marks)
