use Rattle.rinqebo_findings.proofs.delays.entry_finding.Goals as goal

pub returns-clause-error : goal.returns-clause-error
returns-clause-error c = record { about = c.in_ok-found.ensures.about; place = c.in_ok-found.ensures.place }
