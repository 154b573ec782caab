use Rattle.std.proofs.Common.{◌≡◌, length}
use Rattle.std.specs.Str.Lines.{lines}
use Rattle.rinqebo_faults.specs.Meant.{IsFirstDefinition}
use Rattle.rinqebo_faults.proofs.meant.first_definition.Given as goal

abbrev pub invariant-loop-line : goal.invariant-loop-line
invariant-loop-line l =
    (l.place ≡ length l.yielded)
    × IsFirstDefinition (lines l.text) (length l.yielded) l.defined l.first
