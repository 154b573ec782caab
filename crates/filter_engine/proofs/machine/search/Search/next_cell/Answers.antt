use Rattle.std.proofs.Common.{arith}
use Rattle.filter_engine.proofs.Reading.{none_within, reads_within}
use Rattle.filter_engine.proofs.Rows.{next_is, none_is, where_cell}
use Rattle.filter_engine.proofs.machine.search.Search.next_cell.Goals as goal

pub returns-then-len-eq0-clause-cell : goal.returns-then-len-eq0-clause-cell
returns-then-len-eq0-clause-cell g c =
    let reads = rw c.new-next.ensures at c.advance.ensures in
    rw c.if-found.false
    (none_is c.args.self.now.nfa.now c.args.table.now c.args.states.now c.advance.new.next c.args.byte reads
    (omega arith) (c.requires.anchored c.if-anchored.true))

pub returns-clause-table : goal.returns-clause-table
returns-clause-table g c =
    let nfa = c.args.self.now.nfa.now in
    let within = reads_within nfa c.args.byte c.args.states.now c.new-next.result c.advance.new.next c.advance.ensures
    (none_within nfa c.new-next.result c.new-next.ensures) in
    where_cell c.row_of.result _ (c.row_of.ensures.table nfa c.requires.table (rw c.as_slice.ensures within))

pub returns-clause-grows : goal.returns-clause-grows
returns-clause-grows g c = where_cell c.row_of.result _ c.row_of.ensures.grows

pub returns-clause-cell : goal.returns-clause-cell
returns-clause-cell g c =
    let nfa = c.args.self.now.nfa.now in
    rw c.if-found.false
    (next_is nfa c.row_of.new.self c.args.states.now c.advance.new.next c.as_slice.result.now c.args.byte
    (rw c.new-next.ensures at c.advance.ensures) c.as_slice.ensures c.row_of.result c.row_of.ensures.leads)
