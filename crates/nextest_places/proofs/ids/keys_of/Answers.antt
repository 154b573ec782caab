use Rattle.std.proofs.Common.{rules, ◌≡◌, arith, subst, sym}
use Rattle.std.proofs.lemmas.Grind.{common_steps}
use Rattle.nextest_tree.specs.Node.{keys}
use Rattle.nextest_tree.specs.View.{entries_view}
use Rattle.nextest_places.specs.Standing.{IdsAscend, ids_view}
use Rattle.nextest_places.proofs.Sorted.{keys_ascend}
use Rattle.nextest_places.proofs.ids.keys_of.Goals as goal

pub returns-clause-ascends : goal.returns-clause-ascends
returns-clause-ascends c =
    let all : ids_view c.loop-key.keys ≡ keys (entries_view c.args.members.now.entries) = search rules in
    subst IdsAscend (sym all) (keys_ascend c.args.members.now.entries c.iter-key-items.ensures.ordered)

pub loop-key-preserved : goal.loop-key-preserved
loop-key-preserved c = grind (arith, common_steps)
