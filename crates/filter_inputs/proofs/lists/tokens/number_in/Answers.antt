use Rattle.std.proofs.Common.{sym, ◌∙◌}
use Rattle.filter_inputs.proofs.lists.ReadTokens.{number_read}
use Rattle.filter_inputs.proofs.lists.tokens.number_in.Goals as goal

pub returns-in-Ok : goal.returns-in-Ok
returns-in-Ok c = λ is. sym (number_read c.args.text.now is) ∙ c.in-Ok.ensures.ok
