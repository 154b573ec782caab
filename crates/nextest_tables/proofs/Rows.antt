-- Rows of a table as they are put.
use Rattle.std.proofs.Common.{◌≡◌, List, String, Global, string_bytes}
use Rattle.std.specs.BTreeMap.{insert_entry}
use Rattle.std.specs.String.{string_cmp}
use Rattle.nextest_tree.specs.declared.tree.Tree.{Tree}
use Rattle.nextest_tree.specs.Node.{put}
use Rattle.nextest_tree.specs.View.{tree_view, entries_view}
use Rattle.nextest_tree.proofs.Trees.{members-insert_entry}

pub entry_put : (es : List (String Global × Tree)) (k : String Global) (t : Tree)
    → entries_view (insert_entry string_cmp es k t) ≡ put (string_bytes k) (tree_view t) (entries_view es)
entry_put es k t = members-insert_entry es k t
