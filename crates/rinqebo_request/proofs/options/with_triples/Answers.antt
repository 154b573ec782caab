use Rattle.std.proofs.lemmas.Result.{IfOk-weaker}
use Rattle.rinqebo_request.proofs.Adding.{after, conflicting, none}
use Rattle.rinqebo_request.proofs.options.with_triples.Goals as goal

pub returns : goal.returns
returns c =
    let is_host = conflicting _ _ _ _ c.option-host.ensures c.in_ok-conflicts_with.ensures in
    let host = after _ _ _ _ _ _ (none c.args.command) is_host c.in_ok-arg.ensures in
    let version = after _ _ _ _ _ _ host c.option.ensures c.in_ok-arg-2.ensures in
    let target = after _ _ _ _ _ _ version c.option-2.ensures c.in_ok-arg-3.ensures in
    let host_cfg = after _ _ _ _ _ _ target c.option-3.ensures c.in_ok-arg-4.ensures in
    IfOk-weaker c.arg-5.result _ _ (λ _ adds. after _ _ _ _ _ _ host_cfg c.option-4.ensures adds) c.arg-5.ensures
