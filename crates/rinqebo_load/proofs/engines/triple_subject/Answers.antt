use Rattle.rinqebo_load.specs.ListPath.{path_of}
use Rattle.rinqebo_load.proofs.Causes.{about_source}
use Rattle.rinqebo_load.proofs.engines.triple_subject.Goals as goal

pub returns-in_default : goal.returns-in_default
returns-in_default c = about_source c.args.source (path_of c.args.list) c.in_default.not-List
