use Rattle.std.proofs.lemmas.Result.{IfOk-weaker}
use Rattle.rinqebo_request.proofs.Adding.{after, none, repeating, shortened}
use Rattle.rinqebo_request.proofs.options.with_test.Goals as goal

pub returns : goal.returns
returns c =
    let binary = after _ _ _ _ _ _ (none c.args.command) c.word.ensures c.in_ok-arg.ensures in
    let test = after _ _ _ _ _ _ binary c.word-2.ensures c.in_ok-arg-2.ensures in
    let keys = after _ _ _ _ _ _ test c.keys.ensures c.in_ok-arg-3.ensures in
    let key = after _ _ _ _ _ _ keys (repeating _ _ _ (shortened _ _ _ _ c.option-key.ensures c.short.ensures) c.action.ensures) c.in_ok-arg-4.ensures in
    let list = after _ _ _ _ _ _ key c.option-list.ensures c.in_ok-arg-5.ensures in
    IfOk-weaker c.arg-6.result _ _ (λ _ adds. after _ _ _ _ _ _ list c.option.ensures adds) c.arg-6.ensures
