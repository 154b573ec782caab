use Rattle.std.proofs.Common.{refl}
use Rattle.std.proofs.lemmas.Result.{IfOk-weaker}
use Rattle.rinqebo_request.proofs.Adding.{after, defaulted, none}
use Rattle.rinqebo_request.proofs.options.with_profile.Goals as goal

pub returns : goal.returns
returns c =
    let profile = after _ _ _ _ _ _ (none c.args.command) c.profile.ensures c.in_ok-arg.ensures in
    let mode = defaulted _ _ _ _ _ _ c.choice-mode.ensures c.default_value.ensures c.hide_default_value.ensures in
    IfOk-weaker c.arg-2.result _ _ (λ _ adds. (_, refl, after _ _ _ _ _ _ profile mode adds)) c.arg-2.ensures
