use Rattle.std.proofs.lemmas.Result.{err_from_is_err_and}
use Rattle.filter_inputs.specs.Packages.TargetView.{targets_view}
use Rattle.rinqebo_load.proofs.Causes.{not_of_metadata}
use Rattle.rinqebo_load.proofs.find_test.test_of_metadata.Goals as goal

pub returns-in_err-targets-clause-err : goal.returns-in_err-targets-clause-err
returns-in_err-targets-clause-err c =
    let p = err_from_is_err_and c.from_residual.result c.from_residual.ensures.1 in
    rw (p.1, p.2)
    (not_of_metadata c.args.metadata.now c.args.id.now c.in_err-targets.field-0.0 c.in_err-targets.ensures.err)

pub returns-clause-err : goal.returns-clause-err
returns-clause-err c = record {
  targets = targets_view c.in_ok-targets.targets.items;
  are_targets = c.in_ok-targets.ensures.ok;
  lacks = rw c.deref.ensures.value at (rw c.in-None.is at c.in_ok-target.ensures);
}
