use Rattle.rinqebo_request.specs.declared.words.ParseStop.TheVariants as stops
use Rattle.rinqebo_request.proofs.Refusing.{refused_tool}
use Rattle.rinqebo_request.proofs.files.Passing.{passed}
use Rattle.rinqebo_request.proofs.words.tool_name.Goals as goal

pub returns-in_ok-tool_refusal-in-Err-clause-err : goal.returns-in_ok-tool_refusal-in-Err-clause-err
returns-in_ok-tool_refusal-in-Err-clause-err c =
    refused_tool _ c.in-Err.fault c.in_ok-tool_refusal-in-Err.field-0 c.in-Err.ensures.refused c.in_ok-tool_refusal-in-Err.ensures

pub returns-in_err-tool_refusal-in-Err-clause-err : goal.returns-in_err-tool_refusal-in-Err-clause-err
returns-in_err-tool_refusal-in-Err-clause-err c = passed _ c.from_residual.result stops.Memory c.from_residual.ensures.1 tt
