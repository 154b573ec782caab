-- A node that lies upon another one.
use Rattle.std.specs.Prelude.{◌≡◌}
use Rattle.nextest_tree.specs.Node.{Node}
use Rattle.nextest_tree.specs.View.{tree_view}
use Rattle.nextest_documents.specs.Displaced.{displaced_by}
use Rattle.nextest_documents.specs.DisplacedView.{displaced_view}
use Rattle.nextest_documents.specs.Merge.{over}
use Rattle.nextest_documents.specs.declared.laid.Laid.{Laid}

-- the tree is the higher node over the lower one, and what that displaced was kept
pub record IsLaid (above below : Node) (laid : Laid) : Type 0 where
  pub tree : tree_view laid.tree ≡ over above below
  pub displaced : displaced_view laid.displaced ≡ displaced_by above below
