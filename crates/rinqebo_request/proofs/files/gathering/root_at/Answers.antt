use Rattle.std.proofs.Common.{refl}
use Rattle.rinqebo_request.specs.declared.files.gathering.GatherFault.TheVariants as faults
use Rattle.rinqebo_request.proofs.files.Passing.{passed}
use Rattle.rinqebo_request.proofs.files.gathering.root_at.Goals as goal

pub returns-in_err-from_str : goal.returns-in_err-from_str
returns-in_err-from_str c = passed _ c.from_residual.result faults.Memory c.from_residual.ensures.1 refl
