-- Faults that a form does not speak of.
use Rattle.std.specs.Prelude.{List}
use Rattle.std.specs.List.{AllByRecursion}
use Rattle.nextest_tree.specs.Schema.{FaultCause, missing, out_of_range, Fault}

-- Something is missing, or out of its range.
abbrev pub IsMild : FaultCause → Type 0
IsMild (missing key) = Unit {0}
IsMild out_of_range = Unit {0}
IsMild _ = ⊥

-- In each of the faults something is missing or out of its range.
abbrev pub AreMild : List Fault → Type 0
AreMild faults = AllByRecursion (λ fault. IsMild fault.cause) faults
