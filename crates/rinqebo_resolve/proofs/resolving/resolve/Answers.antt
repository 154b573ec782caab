use Rattle.rinqebo_resolve.proofs.Reporting.{reported_answer}
use Rattle.rinqebo_resolve.proofs.Silent.{reported_kept}
use Rattle.rinqebo_resolve.proofs.resolving.resolve.Goals as goal

pub returns-clause-resolved : goal.returns-clause-resolved
returns-clause-resolved c = record {
  ending = c.ending_for.result;
  is_ending = c.ending_for.ensures;
  is_told = c.report.ensures;
}

pub returns-clause-done : goal.returns-clause-done
returns-clause-done c = reported_answer _ _ _ _ _ (returns-clause-resolved c)

pub returns-clause-kept : goal.returns-clause-kept
returns-clause-kept c = reported_kept c.ending_for.result _ _ _ _ c.report.ensures
