use Rattle.std.proofs.Common.{◌≡◌, ◌++◌, map, string_bytes}
use Rattle.rinqebo_faults.specs.Hints.{texts}
use Rattle.rinqebo_faults.proofs.hints.names_of.Given as goal

abbrev pub invariant-loop-known : goal.invariant-loop-known
invariant-loop-known l =
    texts l.names.items ++ map string_bytes l.known-iterator
    ≡ map string_bytes l.initial.known-iterator
