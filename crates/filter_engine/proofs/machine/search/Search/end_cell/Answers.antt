use Rattle.filter_engine.proofs.Rows.{end_found, end_not_found}
use Rattle.filter_engine.proofs.machine.search.Search.end_cell.Goals as goal

pub returns-then-close : goal.returns-then-close
returns-then-close g c =
    end_found c.args.self.now.nfa.now c.requires.looks c.args.row _ _ c.before_end-at.ensures.at c.args.states.now
    c.start.new.list c.before_end-at.ensures.end c.start.ensures.starts (rw c.if-close.true at c.close.ensures.closes)

pub returns-else-close : goal.returns-else-close
returns-else-close g c =
    end_not_found c.args.self.now.nfa.now c.requires.looks c.args.row _ _ c.before_end-at.ensures.at c.args.states.now
    c.start.new.list c.close.new.states c.before_end-at.ensures.end c.start.ensures.starts
    (rw c.if-close.false at c.close.ensures.closes)
