use Rattle.std.proofs.Common.{◌&&◌, None, ap, sym, lit<}
use Rattle.std.specs.Str.{bytes_eq}
use Rattle.std.proofs.lemmas.Str.Pattern.{split_once_first}
use Rattle.rinqebo_faults.specs.Meant.{has_key, key_of}
use Rattle.rinqebo_faults.proofs.Columns.{none_any}
use Rattle.rinqebo_faults.proofs.meant.has_key.Goals as goal

pub returns-in-None : goal.returns-in-None
unfolding has_key
returns-in-None c =
    sym (ap (λ b. b && bytes_eq (key_of c.args.line.now) c.args.key.now)
    (none_any c.args.line.now (split_once_first 61 c.args.line.now None c.in-None.ensures.cases (lit< tt))))
