use Rattle.filter_engine.proofs.Truths.{deps_read, rdeps_read}
use Rattle.filter_engine.proofs.laws.law_deps.Goals as goal

pub returns-clause-deps : goal.returns-clause-deps
returns-clause-deps c = deps_read

pub returns-clause-rdeps : goal.returns-clause-rdeps
returns-clause-rdeps c = rdeps_read
