use Rattle.std.proofs.Common.{[], drop, false}
use Rattle.rule_lists.specs.Lists.{AreKnown}
use Rattle.rule_lists.proofs.Open.{AddsOpen}
use Rattle.rule_lists.proofs.Walked.{Stands}
use Rattle.rule_lists.proofs.open_walk.walk_open_rows.Given as goal

-- what is left to walk, if what is known is so
abbrev pub invariant-loop-row : goal.invariant-loop-row
invariant-loop-row g l =
    let Q = g.Q.Query in
    record {
      stands : AreKnown (Q.tests l.query) (Q.met l.query) l.rules l.known
          → Stands (λ r. false) (Q.met l.query) (Q.tests l.query) l.first l.rules (drop l.row-index l.rows) l.found
          l.open [] [];
      added : AddsOpen l.first l.known (Q.numbers l.fn.tally) (Q.numbers l.tally);
    }
