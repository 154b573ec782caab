use Rattle.std.proofs.lemmas.Result.{IfOk-weaker}
use Rattle.rinqebo_request.proofs.Adding.{after, none, repeating}
use Rattle.rinqebo_request.proofs.options.with_files.Goals as goal

pub returns : goal.returns
returns c =
    let root = after _ _ _ _ _ _ (none c.args.command) c.option.ensures c.in_ok-arg.ensures in
    let config_file = after _ _ _ _ _ _ root c.option-2.ensures c.in_ok-arg-2.ensures in
    let organisation = after _ _ _ _ _ _ config_file c.option-3.ensures c.in_ok-arg-3.ensures in
    let tools = after _ _ _ _ _ _ organisation (repeating _ _ _ c.option-tools.ensures c.action.ensures) c.in_ok-arg-4.ensures in
    let features = after _ _ _ _ _ _ tools (repeating _ _ _ c.option-features.ensures c.action-2.ensures) c.in_ok-arg-5.ensures in
    IfOk-weaker c.arg-6.result _ _ (λ _ adds. after _ _ _ _ _ _ features c.option-4.ensures adds) c.arg-6.ensures
