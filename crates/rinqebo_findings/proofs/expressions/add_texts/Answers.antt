use Rattle.rinqebo_findings.proofs.expressions.add_texts.Goals as goal

pub returns-in-Parse : goal.returns-in-Parse
returns-in-Parse c = rw c.in-Parse.is c.add_parsed.ensures
