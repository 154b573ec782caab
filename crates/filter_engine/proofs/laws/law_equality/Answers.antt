use Rattle.filter_engine.proofs.Truths.{equality_read}
use Rattle.filter_engine.proofs.laws.law_equality.Goals as goal

pub returns : goal.returns
returns c = equality_read
