use Rattle.rinqebo_resolve.proofs.comparison.Receiving.{reported_document}
use Rattle.rinqebo_resolve.proofs.Silent.{reported_kept}
use Rattle.rinqebo_resolve.proofs.comparison.reported.compare.Goals as goal

pub returns-clause-compared : goal.returns-clause-compared
returns-clause-compared c = record {
  name = c.compared_for-name.result.side;
  ending = c.compared_for-name.result.ending;
  is_ending = rw c.counts_origins.ensures at c.compared_for-name.ensures;
  is_reported = c.report.ensures;
  is_side = c.side_number.ensures;
}

pub returns-clause-done : goal.returns-clause-done
returns-clause-done c = reported_document _ _ _ _ _ _ _ _ (returns-clause-compared c)

pub returns-clause-kept : goal.returns-clause-kept
returns-clause-kept c = reported_kept c.compared_for-name.result.ending _ _ _ _ c.report.ensures
