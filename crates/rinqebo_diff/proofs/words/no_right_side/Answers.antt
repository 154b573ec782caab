use Rattle.std.proofs.lemmas.Result.{IfOk-weaker}
use Rattle.rinqebo_diff.proofs.Requesting.{lacking}
use Rattle.rinqebo_diff.proofs.words.no_right_side.Goals as goal

pub returns : goal.returns
returns c = IfOk-weaker c.usage.result _ _ lacking c.usage.ensures.text
