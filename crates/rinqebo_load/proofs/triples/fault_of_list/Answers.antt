use Rattle.rinqebo_load.specs.ListPath.{path_of}
use Rattle.rinqebo_load.proofs.Causes.{listed}
use Rattle.rinqebo_load.proofs.triples.fault_of_list.Goals as goal

pub returns-in_ok-text_of-in_default : goal.returns-in_ok-text_of-in_default
returns-in_ok-text_of-in_default c =
    listed (path_of c.args.path) c.args.text.now c.in_ok-text_of-in_default.field-0 c.args.fault
    c.in_ok-text_of-in_default.ensures c.in_default.not-Memory c.requires
