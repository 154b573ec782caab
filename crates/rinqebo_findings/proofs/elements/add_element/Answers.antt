use Rattle.rinqebo_findings.proofs.elements.add_element.Goals as goal

pub returns : goal.returns
returns c =
    record {
      path = c.deref.result.now;
      stray = c.in_ok-found.ensures.0;
      is_stray = c.in_ok-found.ensures.1;
      finding = c.in_ok-found.found;
      whole = c.in_ok-add_finding.ensures;
      is = c.in_ok-found.ensures.2;
    }
