use Rattle.std.proofs.Common.{◌∙◌}
use Rattle.nextest_tree.specs.View.{tree_view}
use Rattle.nextest_shape.proofs.faults.Words.{growing_at, not_growing}
use Rattle.nextest_shape.proofs.faults.across.is_exponential.Goals as goal

pub returns-in-Some : goal.returns-in-Some
returns-in-Some c = c.eq.ensures ∙ growing_at (tree_view c.args.tree.now) c.in-Some.text.now c.in-Some.ensures

pub returns-in-None : goal.returns-in-None
returns-in-None c = not_growing (tree_view c.args.tree.now) c.in-None.ensures
