use Rattle.rinqebo_checks.proofs.Joining.{key_in}
use Rattle.rinqebo_checks.proofs.value_faults.is_key_in.Goals as goal

pub returns : goal.returns
returns c =
    λ same. key_in c.args.path.now c.in-Some.rest.now c.args.table.now c.in-Some.last.now c.args.key.now
    c.in-Some.ensures.cases.0 (c.is_named.ensures c.if-not-is_named.false) (c.is_path.ensures same)
