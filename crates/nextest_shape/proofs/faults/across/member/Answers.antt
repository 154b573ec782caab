use Rattle.std.proofs.Common.{ap, ◌∙◌}
use Rattle.nextest_tree.specs.Node.{get}
use Rattle.nextest_tree.specs.View.{entries_view}
use Rattle.nextest_tree.proofs.Trees.{table_get}
use Rattle.nextest_shape.proofs.faults.across.member.Goals as goal

pub returns : goal.returns
returns c =
    let es = c.args.members.now.entries in
    table_get c.get.result c.text.result.now es c.get.ensures.value ∙ ap (λ k. get k (entries_view es)) c.text.ensures
