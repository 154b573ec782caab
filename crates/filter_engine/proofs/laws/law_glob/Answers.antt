use Rattle.filter_engine.proofs.Truths.{glob_read}
use Rattle.filter_engine.proofs.laws.law_glob.Goals as goal

pub returns : goal.returns
returns c = glob_read
