use Rattle.rinqebo_request.proofs.files.Passing.{passed}
use Rattle.rinqebo_request.proofs.files.gathering.named_list.Goals as goal

pub returns-in_err-read-clause-err : goal.returns-in_err-read-clause-err
returns-in_err-read-clause-err g c =
    passed _ c.from_residual.result c.in_err-read.field-0.0 c.from_residual.ensures.1 c.in_err-read.ensures.err
