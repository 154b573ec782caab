use Rattle.filter_engine.proofs.Truths.{substring_read}
use Rattle.filter_engine.proofs.laws.law_substring.Goals as goal

pub returns : goal.returns
returns c = substring_read
