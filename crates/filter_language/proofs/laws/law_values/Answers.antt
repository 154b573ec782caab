use Rattle.filter_language.proofs.Truths.{values_are_true}
use Rattle.filter_language.proofs.laws.law_values.Goals as goal

pub returns : goal.returns
returns g c = values_are_true g.E.Matchers.accepts
