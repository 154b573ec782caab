use Rattle.filter_language.proofs.Truths.{only_tests}
use Rattle.filter_language.proofs.laws.law_decided.Goals as goal

pub returns : goal.returns
returns g c = only_tests g.E.Matchers.accepts
