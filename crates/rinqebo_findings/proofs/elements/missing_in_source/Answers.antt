use Rattle.rinqebo_findings.proofs.elements.missing_in_source.Goals as goal

pub returns : goal.returns
returns c = (c.in_ok-stray.stray, c.in_ok-stray.ensures, c.in_ok-missing_finding.ensures)
