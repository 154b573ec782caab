use Rattle.std.proofs.Common.{rules}
use Rattle.std.proofs.lemmas.Str.Pattern.{split_once_first}
use Rattle.rinqebo_load.proofs.found_test.kind_and_name.Goals as goal

pub returns : goal.returns
returns c = split_once_first 47 c.args.target.now c.split_once.result c.split_once.ensures.cases (search rules)
