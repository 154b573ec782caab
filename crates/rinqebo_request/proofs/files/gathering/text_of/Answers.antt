use Rattle.std.proofs.Common.{refl}
use Rattle.nextest_sources.specs.Sources.{outcome_view}
use Rattle.rinqebo_request.specs.declared.files.gathering.GatherFault.TheVariants as faults
use Rattle.rinqebo_request.proofs.files.Passing.{passed, unread_or}
use Rattle.rinqebo_request.proofs.files.gathering.text_of.Goals as goal

pub returns-in-Ok-clause-ok : goal.returns-in-Ok-clause-ok
returns-in-Ok-clause-ok c = rw c.in-Ok.is at c.in_ok-text.ensures

pub returns-in-Err-clause-err : goal.returns-in-Err-clause-err
returns-in-Err-clause-err c =
    let why = rw c.in-Err.is at c.in_ok-text.ensures in
    unread_or c.args.path.now c.args.option _ (outcome_view c.args.outcome) _ c.unreadable.result c.unreadable.ensures refl why

pub returns-in_err-text-clause-err : goal.returns-in_err-text-clause-err
returns-in_err-text-clause-err c = passed _ c.from_residual.result faults.Memory c.from_residual.ensures.1 tt
