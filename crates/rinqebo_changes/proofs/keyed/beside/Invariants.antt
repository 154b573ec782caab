use Rattle.std.proofs.Common.{take}
use Rattle.rinqebo_changes.specs.Keyed.{AreBeside}
use Rattle.rinqebo_changes.proofs.keyed.beside.Given as goal

-- the rows so far have rows beside them
abbrev pub invariant-loop-row : goal.invariant-loop-row
invariant-loop-row l =
    AreBeside l.initial.rest.items (take l.row-index l.from) l.right.items l.rest.items
