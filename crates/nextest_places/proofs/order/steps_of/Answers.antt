use Rattle.std.proofs.Common.{[], append-nil, subst}
use Rattle.std.proofs.lemmas.List.{drop_all}
use Rattle.nextest_places.specs.Ids.{AreStepsOf}
use Rattle.nextest_places.specs.Standing.{key_path_view}
use Rattle.nextest_places.proofs.order.steps_of.Goals as goal

pub returns : goal.returns
returns c =
    let over = drop_all c.loop-key.key-index c.args.path.now c.loop-key-test.false in
    subst (AreStepsOf (key_path_view c.args.path.now)) (append-nil c.loop-key.steps.items)
    (c.loop-key.invariant [] (rw over tt))
