use Rattle.std.proofs.Common.{arith}
use Rattle.filter_engine.specs.Tables.{lists_of}
use Rattle.filter_engine.proofs.Tables.{cell_set}
use Rattle.filter_engine.proofs.Follows.{rows_count, rows_room}
use Rattle.filter_engine.proofs.machine.table.Table.set.Goals as goal

pub returns-clause-table : goal.returns-clause-table
returns-clause-table c =
    let table = c.args.self.now in
    λ nfa is cell.
    cell_set nfa table.classes table.width (lists_of table.rows.items) table.cells.items c.args.row c.args.class
    c.args.cell is (omega (arith, rows_count table)) c.requires.class (rows_room table) cell
