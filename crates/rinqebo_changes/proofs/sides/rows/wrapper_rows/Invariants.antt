use Rattle.std.specs.List.{AllZip}
use Rattle.rinqebo_changes.specs.Sides.RunRows.{IsWrapperRow}
use Rattle.rinqebo_changes.proofs.sides.rows.wrapper_rows.Given as goal

-- the wrappers so far have their rows
abbrev pub invariant-loop-wrapper : goal.invariant-loop-wrapper
invariant-loop-wrapper l = AllZip IsWrapperRow l.yielded l.rows.items
