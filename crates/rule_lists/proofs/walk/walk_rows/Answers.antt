use Rattle.std.proofs.Common.{arith, refl, ◌∙◌, sym}
use Rattle.rule_lists.proofs.Walked.{stands-start, stands-end, stands-at, next-bounds, next-answers, next-shut, stands-unwanted, stands-unmet, stands-met}
use Rattle.rule_lists.proofs.walk.walk_rows.Goals as goal
use Rattle.rule_lists.proofs.walk.walk_rows.Goals.{then-wanted-ne0+then-is_met, then-wanted-ne0+else-is_met, else-wanted-ne0}

pub loop-row-init : goal.loop-row-init
loop-row-init g c =
    let Q = g.Q.Query in
    let q = c.args.query.now in
    stands-start (Q.asks q) (Q.met q) (Q.tests q) c.args.first c.args.rules.now c.args.rows.now
    c.args.found.now _ (Q.numbers c.args.tally.now) c.requires.few c.requires.none c.requires.rows refl

pub overflow_sub-rule : goal.overflow_sub-rule
overflow_sub-rule g c =
    let Q = g.Q.Query in
    let q = c.args.query.now in
    let first = c.args.first in
    let rules = c.args.rules.now in
    let rows = c.args.rows.now in
    let i = c.loop-row.row-index in
    let next = stands-at (Q.asks q) (Q.met q) (Q.tests q) first rules rows i _ c.loop-row.found
    c.loop-row.open (Q.numbers c.loop-row.tally) (Q.numbers c.args.tally.now)
    (omega (arith, c.loop-row-test.true)) c.loop-row.invariant in
    (next-bounds (Q.asks q) (Q.met q) (Q.tests q) first rules _ _ _ _ _ _ next).0

pub offset_bounds-rules-row : goal.offset_bounds-rules-row
offset_bounds-rules-row g c =
    let Q = g.Q.Query in
    let q = c.args.query.now in
    let first = c.args.first in
    let rules = c.args.rules.now in
    let rows = c.args.rows.now in
    let i = c.loop-row.row-index in
    let next = stands-at (Q.asks q) (Q.met q) (Q.tests q) first rules rows i _ c.loop-row.found
    c.loop-row.open (Q.numbers c.loop-row.tally) (Q.numbers c.args.tally.now)
    (omega (arith, c.loop-row-test.true)) c.loop-row.invariant in
    (next-bounds (Q.asks q) (Q.met q) (Q.tests q) first rules _ _ _ _ _ _ next).2

pub bounds-rules-row : goal.bounds-rules-row
bounds-rules-row g c =
    let Q = g.Q.Query in
    let q = c.args.query.now in
    let first = c.args.first in
    let rules = c.args.rules.now in
    let rows = c.args.rows.now in
    let i = c.loop-row.row-index in
    let next = stands-at (Q.asks q) (Q.met q) (Q.tests q) first rules rows i _ c.loop-row.found
    c.loop-row.open (Q.numbers c.loop-row.tally) (Q.numbers c.args.tally.now)
    (omega (arith, c.loop-row-test.true)) c.loop-row.invariant in
    (next-bounds (Q.asks q) (Q.met q) (Q.tests q) first rules _ _ _ _ _ _ next).1

pub is_met-requires : goal.is_met-requires
is_met-requires g c =
    let Q = g.Q.Query in
    let q = c.args.query.now in
    let first = c.args.first in
    let rules = c.args.rules.now in
    let rows = c.args.rows.now in
    let i = c.loop-row.row-index in
    let next = stands-at (Q.asks q) (Q.met q) (Q.tests q) first rules rows i _ c.loop-row.found
    c.loop-row.open (Q.numbers c.loop-row.tally) (Q.numbers c.args.tally.now)
    (omega (arith, c.loop-row-test.true)) c.loop-row.invariant in
    next-answers (Q.asks q) (Q.met q) (Q.tests q) first rules _ _ _ _ _ _ next (Q.has_answer q)
    c.requires.answers c.if-wanted-ne0.true c.index-rules-row.result c.index-rules-row.is

pub loop-row-preserved : goal.loop-row-preserved
loop-row-preserved g c =
    let Q = g.Q.Query in
    let q = c.args.query.now in
    let first = c.args.first in
    let rules = c.args.rules.now in
    let rows = c.args.rows.now in
    let i = c.loop-row.row-index in
    let next = stands-at (Q.asks q) (Q.met q) (Q.tests q) first rules rows i _ c.loop-row.found
    c.loop-row.open (Q.numbers c.loop-row.tally) (Q.numbers c.args.tally.now)
    (omega (arith, c.loop-row-test.true)) c.loop-row.invariant in
    elim c.if-wanted-ne0.branch [
      | then-wanted-ne0+then-is_met w ↦
          rw (w.found-is, w.settle.ensures, w.tally-is, w.open-is)
          (stands-met (Q.asks q) (Q.met q) (Q.tests q) first rules _ _ _ _ _ _ next w.if-wanted-ne0.true
          w.index-rules-row.result w.index-rules-row.is _ w.is_met.ensures.tally
          (sym w.if-is_met.true ∙ w.is_met.ensures.answer))
      | then-wanted-ne0+else-is_met w ↦
          rw (w.found-is, w.tally-is, w.open-is)
          (stands-unmet (Q.asks q) (Q.met q) (Q.tests q) first rules _ _ _ _ _ _ next w.if-wanted-ne0.true
          w.index-rules-row.result w.index-rules-row.is _ w.is_met.ensures.tally
          (sym w.if-is_met.false ∙ w.is_met.ensures.answer))
      | else-wanted-ne0 w ↦ rw (w.found-is, w.tally-is, w.open-is)
          (stands-unwanted (Q.asks q) (Q.met q) (Q.tests q) first rules _ _ _ _ _ _ next w.if-wanted-ne0.false)
    ]

pub returns-after-loop-row-clause-found : goal.returns-after-loop-row-clause-found
returns-after-loop-row-clause-found g c =
    let Q = g.Q.Query in
    let q = c.args.query.now in
    (stands-end (Q.asks q) (Q.met q) (Q.tests q) c.args.first c.args.rules.now c.args.rows.now
    c.loop-row.row-index c.loop-row.found c.loop-row.open (Q.numbers c.loop-row.tally)
    (Q.numbers c.args.tally.now) (omega (arith, c.loop-row-test.false)) c.loop-row.invariant).0

pub returns-then-open-row-eq0-clause-found : goal.returns-then-open-row-eq0-clause-found
returns-then-open-row-eq0-clause-found g c =
    let Q = g.Q.Query in
    let q = c.args.query.now in
    let first = c.args.first in
    let rules = c.args.rules.now in
    let rows = c.args.rows.now in
    let i = c.loop-row.row-index in
    let next = stands-at (Q.asks q) (Q.met q) (Q.tests q) first rules rows i _ c.loop-row.found
    c.loop-row.open (Q.numbers c.loop-row.tally) (Q.numbers c.args.tally.now)
    (omega (arith, c.loop-row-test.true)) c.loop-row.invariant in
    (next-shut (Q.asks q) (Q.met q) (Q.tests q) first rules _ _ _ _ _ _ next c.if-open-row-eq0.true).0

pub returns-after-loop-row-clause-tally : goal.returns-after-loop-row-clause-tally
returns-after-loop-row-clause-tally g c =
    let Q = g.Q.Query in
    let q = c.args.query.now in
    (stands-end (Q.asks q) (Q.met q) (Q.tests q) c.args.first c.args.rules.now c.args.rows.now
    c.loop-row.row-index c.loop-row.found c.loop-row.open (Q.numbers c.loop-row.tally)
    (Q.numbers c.args.tally.now) (omega (arith, c.loop-row-test.false)) c.loop-row.invariant).1

pub returns-then-open-row-eq0-clause-tally : goal.returns-then-open-row-eq0-clause-tally
returns-then-open-row-eq0-clause-tally g c =
    let Q = g.Q.Query in
    let q = c.args.query.now in
    let first = c.args.first in
    let rules = c.args.rules.now in
    let rows = c.args.rows.now in
    let i = c.loop-row.row-index in
    let next = stands-at (Q.asks q) (Q.met q) (Q.tests q) first rules rows i _ c.loop-row.found
    c.loop-row.open (Q.numbers c.loop-row.tally) (Q.numbers c.args.tally.now)
    (omega (arith, c.loop-row-test.true)) c.loop-row.invariant in
    (next-shut (Q.asks q) (Q.met q) (Q.tests q) first rules _ _ _ _ _ _ next c.if-open-row-eq0.true).1
