use Rattle.filter_engine.specs.Matches.{question_of}
use Rattle.filter_engine.proofs.Asks.{asks_is}
use Rattle.filter_engine.proofs.names.NamePatternNameTest.is_match.Goals as goal

pub returns : goal.returns
returns c = asks_is (question_of c.args.self.now.matcher) c.args.name.now c.is_match.result c.is_match.ensures
