use Rattle.rinqebo_results.proofs.reporting.answer_with.Goals as goal

pub returns-clause-warned : goal.returns-clause-warned
returns-clause-warned c = record {
  found = c.in_ok-findings.findings.items;
  begin = c.in_ok-findings.ensures;
  shows = c.in_ok-report.ensures.findings;
}
