use Rattle.filter_language.proofs.Binaries.{marks_speak}
use Rattle.filter_language.proofs.laws.law_marks_of_binaries.Goals as goal

pub returns : goal.returns
returns g c = marks_speak g.E.Matchers.accepts
