use Rattle.filter_engine.proofs.GlobDecisions.{glob_takes_decides, writes_glob_decides}
use Rattle.filter_engine.proofs.name_matcher.law_decided_globs.Goals as goal

pub returns : goal.returns
returns c = record { written = writes_glob_decides; taken = glob_takes_decides }
