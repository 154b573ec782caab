use Rattle.filter_language.proofs.Truths.{opposites_change}
use Rattle.filter_language.proofs.laws.law_opposites.Goals as goal

pub returns : goal.returns
returns g c = opposites_change g.E.Matchers.accepts
