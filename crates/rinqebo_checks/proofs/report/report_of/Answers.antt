use Rattle.rinqebo_checks.proofs.report.report_of.Goals as goal

pub returns-clause-findings : goal.returns-clause-findings
returns-clause-findings c =
    record {
      ordered = c.in_ok-ordered.ordered.items;
      each_once = c.in_ok-ordered.ensures.same;
      in_order = c.in_ok-ordered.ensures.sorted;
      as_found = c.in_ok-with_lines.ensures;
    }
