use Rattle.rinqebo_request.specs.declared.files.gathering.GatherFault.TheVariants as faults
use Rattle.rinqebo_request.proofs.files.Passing.{passed}
use Rattle.rinqebo_request.proofs.files.gathering.named_root.Goals as goal

pub returns-in_err-root-clause-err : goal.returns-in_err-root-clause-err
returns-in_err-root-clause-err g c = passed _ c.from_residual.result faults.Memory c.from_residual.ensures.1 tt
