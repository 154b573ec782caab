use Rattle.filter_engine.proofs.Truths.{truth_told}
use Rattle.filter_engine.proofs.laws.law_filters.Goals as goal

pub returns : goal.returns
returns c = truth_told
