use Rattle.filter_engine.proofs.Truths.{regex_read}
use Rattle.filter_engine.proofs.laws.law_regex.Goals as goal

pub returns : goal.returns
returns c = regex_read
