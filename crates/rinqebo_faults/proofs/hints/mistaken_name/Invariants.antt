use Rattle.std.proofs.Common.{◌≡◌, drop}
use Rattle.rinqebo_faults.specs.Hints.{first_mistaken, texts}
use Rattle.rinqebo_faults.proofs.hints.mistaken_name.Given as goal

abbrev pub invariant-loop-other : goal.invariant-loop-other
invariant-loop-other l =
    first_mistaken l.name (texts (drop l.other-index l.known))
    ≡ first_mistaken l.name (texts l.known)
