use Rattle.std.proofs.Common.{arith, sym, ◌∙◌, append-nil}
use Rattle.std.proofs.lemmas.Grind.{common_steps}
use Rattle.filter_inputs.proofs.lists.suites.cases_of.Goals as goal

pub loop-name-preserved : goal.loop-name-preserved
loop-name-preserved c = grind (arith, common_steps)

pub returns : goal.returns
returns c = sym (append-nil _) ∙ rw c.in-None.ensures.steps.0 at c.loop-name.invariant
