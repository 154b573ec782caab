use Rattle.std.proofs.Common.{take}
use Rattle.std.specs.List.{AllZip}
use Rattle.rinqebo_changes.specs.Keyed.{IsAbsentFor}
use Rattle.rinqebo_changes.proofs.keyed.absent_rows.Given as goal

-- each row so far has one beside it
abbrev pub invariant-loop-row : goal.invariant-loop-row
invariant-loop-row l = AllZip IsAbsentFor (take l.row-index l.rows) l.made.items
