use Rattle.std.proofs.Common.{drop}
use Rattle.rule_lists.proofs.Walked.{Stands}
use Rattle.rule_lists.proofs.walk.walk_rows.Given as goal

abbrev pub invariant-loop-row : goal.invariant-loop-row
invariant-loop-row g l =
    let Q = g.Q.Query in
    Stands (Q.asks l.query) (Q.met l.query) (Q.tests l.query) l.first l.rules (drop l.row-index l.rows)
    l.found l.open (Q.numbers l.tally) (Q.numbers l.fn.tally)
