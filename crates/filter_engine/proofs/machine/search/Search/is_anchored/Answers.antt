use Rattle.filter_engine.proofs.Rows.{starts_first}
use Rattle.filter_engine.proofs.machine.search.Search.is_anchored.Goals as goal

pub returns-in-NotFound : goal.returns-in-NotFound
returns-in-NotFound g c =
    λ _. starts_first c.args.self.now.nfa.now c.requires _ _ c.before_byte-at.ensures.at c.before_byte-at.ensures.byte
    c.start.new.list c.close.new.states c.start.ensures.starts (rw c.if-close.false at c.close.ensures.closes)
    (c.reads_some.ensures c.if-reads_some.false) (rw c.in-NotFound.is at c.end_cell.ensures)
