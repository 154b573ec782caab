use Rattle.std.proofs.Common.{Ok, ap, ◌∙◌}
use Rattle.nextest_tree.specs.View.{tree_view}
use Rattle.nextest_documents.specs.Merge.{over}
use Rattle.nextest_documents.proofs.Shown.{laid_nodes}
use Rattle.nextest_documents.proofs.Sorted.{laid_sorted}
use Rattle.nextest_documents.proofs.merge.lay_over.Goals as goal

pub returns-clause-nodes : goal.returns-clause-nodes
returns-clause-nodes c =
    laid_nodes (Ok c.in_ok-lay_upon.field-0.tree) (tree_view c.args.above.now) (tree_view c.args.below)
    (c.in_ok-lay_upon.ensures.tree ∙ ap (λ n. over n (tree_view c.args.below)) c.in_ok-copy_tree.ensures)

pub returns-clause-sorted : goal.returns-clause-sorted
returns-clause-sorted c =
    laid_sorted (Ok c.in_ok-lay_upon.field-0.tree) (tree_view c.args.above.now) (tree_view c.args.below)
    (c.in_ok-lay_upon.ensures.tree ∙ ap (λ n. over n (tree_view c.args.below)) c.in_ok-copy_tree.ensures)
