use Rattle.std.proofs.Common.{◌≡◌, drop}
use Rattle.rinqebo_faults.specs.Hints.{name_by_front, texts}
use Rattle.rinqebo_faults.proofs.hints.name_by_front.Given as goal

abbrev pub invariant-loop-other : goal.invariant-loop-other
invariant-loop-other l =
    name_by_front l.name (texts (drop l.other-index l.known))
    ≡ name_by_front l.name (texts l.known)
