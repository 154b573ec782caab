use Rattle.filter_language.proofs.Truths.{binaries_speak}
use Rattle.filter_language.proofs.laws.law_binaries.Goals as goal

pub returns : goal.returns
returns g c = binaries_speak g.E.Matchers.accepts
