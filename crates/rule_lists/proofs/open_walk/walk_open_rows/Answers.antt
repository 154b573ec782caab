use Rattle.std.proofs.Common.{◌∙◌, [], append-nil, arith, false, refl, sym}
use Rattle.std.proofs.lemmas.List.Elements.{All-nil}
use Rattle.rule_lists.specs.Lists.{AreKnown, IsOpen}
use Rattle.rule_lists.proofs.Open.{more_open, place_within, row_within}
use Rattle.rule_lists.proofs.Walked.{next-known, next-shut, stands-at, stands-end, stands-met, stands-start, stands-unmet, stands-unwanted}
use Rattle.rule_lists.proofs.open_walk.walk_open_rows.Goals as goal
use Rattle.rule_lists.proofs.open_walk.walk_open_rows.Goals.{then-wanted-ne0+then-is_met_or_known, then-wanted-ne0+else-is_met_or_known, else-wanted-ne0}

pub loop-row-init : goal.loop-row-init
loop-row-init g c =
    let Q = g.Q.Query in
    let q = c.args.query.now in
    record {
      stands = λ known. stands-start (λ r. false) (Q.met q) (Q.tests q) c.args.first c.args.rules.now c.args.rows.now
          c.args.found.now _ [] c.requires.few c.requires.none c.requires.rows refl;
      added = ([], sym (append-nil (Q.numbers c.args.tally.now)), All-nil (IsOpen c.args.first c.args.known.now));
    }

pub overflow_sub-place : goal.overflow_sub-place
overflow_sub-place g c =
    (place_within c.args.first _ _
    (row_within (g.Q.Query.tests c.args.query.now) c.args.first c.args.rules.now c.args.rows.now c.loop-row.row-index _
    c.requires.rows (omega (arith, c.loop-row-test.true)))).0

pub offset_bounds-rules-place : goal.offset_bounds-rules-place
offset_bounds-rules-place g c =
    (place_within c.args.first _ _
    (row_within (g.Q.Query.tests c.args.query.now) c.args.first c.args.rules.now c.args.rows.now c.loop-row.row-index _
    c.requires.rows (omega (arith, c.loop-row-test.true)))).2

pub bounds-rules-place : goal.bounds-rules-place
bounds-rules-place g c =
    (place_within c.args.first _ _
    (row_within (g.Q.Query.tests c.args.query.now) c.args.first c.args.rules.now c.args.rows.now c.loop-row.row-index _
    c.requires.rows (omega (arith, c.loop-row-test.true)))).1

pub is_met_or_known-requires : goal.is_met_or_known-requires
is_met_or_known-requires g c = c.requires.answers _

pub loop-row-preserved : goal.loop-row-preserved
loop-row-preserved g c =
    let Q = g.Q.Query in
    let q = c.args.query.now in
    let first = c.args.first in
    let rules = c.args.rules.now in
    let rows = c.args.rows.now in
    let known = c.args.known.now in
    let start = Q.numbers c.args.tally.now in
    let old = Q.numbers c.loop-row.tally in
    let next = λ (are : AreKnown (Q.tests q) (Q.met q) rules known). stands-at (λ r. false) (Q.met q) (Q.tests q) first
    rules rows c.loop-row.row-index _
    c.loop-row.found c.loop-row.open [] [] (omega (arith, c.loop-row-test.true)) (c.loop-row.invariant.stands are) in
    elim c.if-wanted-ne0.branch [
      | then-wanted-ne0+then-is_met_or_known w ↦ record {
        stands = λ are. rw (w.found-is, w.settle.ensures, w.open-is)
            (stands-met (λ r. false) (Q.met q) (Q.tests q) first rules _ _ _ _ _ _ (next are) w.if-wanted-ne0.true
            w.index-rules-place.result w.index-rules-place.is [] refl
            (sym w.if-is_met_or_known.true ∙ w.is_met_or_known.ensures.answer
            (next-known (λ r. false) (Q.met q) (Q.tests q) first rules _ _ _ _ _ _ (next are) known are
            w.if-wanted-ne0.true w.index-rules-place.result w.index-rules-place.is _ w.known_at.ensures)));
        added = rw w.tally-is
            (more_open first known start old _ c.loop-row.invariant.added _ _ _ w.known_at.ensures
            w.is_met_or_known.ensures.tally);
      }
      | then-wanted-ne0+else-is_met_or_known w ↦ record {
        stands = λ are. rw (w.found-is, w.open-is)
            (stands-unmet (λ r. false) (Q.met q) (Q.tests q) first rules _ _ _ _ _ _ (next are) w.if-wanted-ne0.true
            w.index-rules-place.result w.index-rules-place.is [] refl
            (sym w.if-is_met_or_known.false ∙ w.is_met_or_known.ensures.answer
            (next-known (λ r. false) (Q.met q) (Q.tests q) first rules _ _ _ _ _ _ (next are) known are
            w.if-wanted-ne0.true w.index-rules-place.result w.index-rules-place.is _ w.known_at.ensures)));
        added = rw w.tally-is
            (more_open first known start old _ c.loop-row.invariant.added _ _ _ w.known_at.ensures
            w.is_met_or_known.ensures.tally);
      }
      | else-wanted-ne0 w ↦ record {
        stands = λ are. rw (w.found-is, w.open-is)
            (stands-unwanted (λ r. false) (Q.met q) (Q.tests q) first rules _ _ _ _ _ _ (next are)
            w.if-wanted-ne0.false);
        added = rw w.tally-is c.loop-row.invariant.added;
      }
    ]

pub returns-after-loop-row-clause-found : goal.returns-after-loop-row-clause-found
returns-after-loop-row-clause-found g c = λ are.
    let Q = g.Q.Query in
    let q = c.args.query.now in
    (stands-end (λ r. false) (Q.met q) (Q.tests q) c.args.first c.args.rules.now c.args.rows.now
    c.loop-row.row-index c.loop-row.found c.loop-row.open [] [] (omega (arith, c.loop-row-test.false))
    (c.loop-row.invariant.stands are)).0

pub returns-then-open-row-eq0-clause-found : goal.returns-then-open-row-eq0-clause-found
returns-then-open-row-eq0-clause-found g c = λ are.
    let Q = g.Q.Query in
    let q = c.args.query.now in
    let first = c.args.first in
    let rules = c.args.rules.now in
    let rows = c.args.rows.now in
    let next = stands-at (λ r. false) (Q.met q) (Q.tests q) first rules rows c.loop-row.row-index _ c.loop-row.found
    c.loop-row.open [] [] (omega (arith, c.loop-row-test.true)) (c.loop-row.invariant.stands are) in
    (next-shut (λ r. false) (Q.met q) (Q.tests q) first rules _ _ _ _ _ _ next c.if-open-row-eq0.true).0
