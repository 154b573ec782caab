use Rattle.filter_engine.proofs.Truths.{predicate_read}
use Rattle.filter_engine.proofs.laws.law_predicates.Goals as goal

pub returns : goal.returns
returns c = predicate_read
