use Rattle.std.proofs.Common.{filter}
use Rattle.std.specs.List.{AllZip}
use Rattle.rinqebo_changes.specs.Sides.RunRows.{is_of_run, IsEntryRow}
use Rattle.rinqebo_changes.proofs.sides.rows.entry_rows.Given as goal

-- the leaves so far have their rows
abbrev pub invariant-loop-entry : goal.invariant-loop-entry
invariant-loop-entry l = AllZip IsEntryRow (filter is_of_run l.yielded) l.rows.items
