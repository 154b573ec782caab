use Rattle.std.proofs.lemmas.Result.{IfOk-weaker}
use Rattle.rinqebo_run.proofs.run.gathering_message.Goals as goal

pub returns : goal.returns
returns c = IfOk-weaker c.error_line.result _ _ (λ message is. (c.as_str.result.now, is)) c.error_line.ensures
