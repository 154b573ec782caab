use Rattle.filter_engine.proofs.GlobParts.{plain_is_equality}
use Rattle.filter_engine.proofs.name_matcher.law_plain_glob.Goals as goal

pub returns : goal.returns
returns c = plain_is_equality
