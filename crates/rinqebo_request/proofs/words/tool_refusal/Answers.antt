use Rattle.std.proofs.lemmas.Result.{IfOk-weaker}
use Rattle.rinqebo_request.proofs.Refusing.{tool_refused}
use Rattle.rinqebo_request.proofs.words.tool_refusal.Goals as goal

pub returns-in_default : goal.returns-in_default
returns-in_default c =
    IfOk-weaker c.no_tool_name.result _ _ (λ stop. tool_refused c.args.fault.now stop c.in_default.not-Memory) c.no_tool_name.ensures
