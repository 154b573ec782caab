use Rattle.rinqebo_run.proofs.Notes.{not_noted}
use Rattle.rinqebo_run.proofs.run.answer_in.Goals as goal

pub returns-in-Explain-clause-ok : goal.returns-in-Explain-clause-ok
returns-in-Explain-clause-ok g c = rw c.in-Explain.is c.explain_test.ensures.ok

pub returns-in-Why-clause-ok : goal.returns-in-Why-clause-ok
returns-in-Why-clause-ok g c = rw c.in-Why.is c.why_of_test.ensures.ok

pub returns-in-WhyRuns-clause-ok : goal.returns-in-WhyRuns-clause-ok
returns-in-WhyRuns-clause-ok g c = rw c.in-WhyRuns.is c.why_runs_of.ensures.ok

pub returns-in-Explain-clause-noted : goal.returns-in-Explain-clause-noted
returns-in-Explain-clause-noted g c = rw c.in-Explain.is (not_noted c.explain_test.result)

pub returns-in-Why-clause-noted : goal.returns-in-Why-clause-noted
returns-in-Why-clause-noted g c = rw c.in-Why.is (not_noted c.why_of_test.result)

pub returns-in-WhyRuns-clause-noted : goal.returns-in-WhyRuns-clause-noted
returns-in-WhyRuns-clause-noted g c = rw c.in-WhyRuns.is (not_noted c.why_runs_of.result)

pub returns-in-List-clause-noted : goal.returns-in-List-clause-noted
returns-in-List-clause-noted g c = rw c.in-List.is (not_noted c.answered.result)

pub returns-in-ShowConfig-clause-noted : goal.returns-in-ShowConfig-clause-noted
returns-in-ShowConfig-clause-noted g c = rw c.in-ShowConfig.is (not_noted c.show.result)

pub returns-in-Check-clause-noted : goal.returns-in-Check-clause-noted
returns-in-Check-clause-noted g c = rw c.in-Check.is c.check.ensures.noted
