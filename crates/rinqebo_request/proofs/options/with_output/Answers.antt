use Rattle.std.proofs.Common.{refl}
use Rattle.std.proofs.lemmas.Result.{IfOk-weaker}
use Rattle.rinqebo_request.proofs.Adding.{after, defaulted, none}
use Rattle.rinqebo_request.proofs.options.with_output.Goals as goal

pub returns : goal.returns
returns c =
    let formats = after _ _ _ _ _ _ (none c.args.command) (defaulted _ _ _ _ _ _ c.choice-format.ensures c.default_value.ensures c.hide_default_value.ensures) c.in_ok-arg.ensures in
    IfOk-weaker c.arg-2.result _ _ (λ _ adds. (_, refl, after _ _ _ _ _ _ formats c.choice.ensures adds)) c.arg-2.ensures
