-- The node that a `Tree` means.
use Rattle.std.specs.Prelude.{List, [], ◌∷◌, map, String, string_bytes}
use Rattle.std.specs.declared.alloc.Global.{Global}
use Rattle.nextest_tree.specs.Node.{Node, table, array, text, int, bool, opaque, Nodes, no_nodes, node, Entries, no_entries, entry}
use Rattle.nextest_tree.specs.declared.tree.Tree.{Tree, fold-Tree}
use Rattle.nextest_tree.specs.declared.tree.Tree.TheOpen.{Tree-F}

-- some nodes as the items of an array
abbrev pub nodes_of : List Node → Nodes
nodes_of [] = no_nodes
nodes_of (n ∷ ns) = node n (nodes_of ns)

-- some keys with their nodes as the entries of a table
abbrev pub entries_of : List (String Global × Node) → Entries
entries_of [] = no_entries
entries_of (e ∷ es) = entry (string_bytes e.0) e.1 (entries_of es)

-- one level, with each tree inside already seen as its node
abbrev pub node_step : Tree-F Node → Node
node_step (Tree-F.Table m) = table (entries_of m.entries)
node_step (Tree-F.Array v) = array (nodes_of v.items)
node_step (Tree-F.Text s) = text (string_bytes s)
node_step (Tree-F.Int z) = int z
node_step (Tree-F.Bool b) = bool b
node_step Tree-F.Opaque = opaque

-- the node that a tree means
abbrev pub tree_view : Tree → Node
tree_view = fold-Tree Node node_step

-- the items that some trees mean
abbrev pub nodes_view : List Tree → Nodes
nodes_view ts = nodes_of (map tree_view ts)

-- the entries that some keys with their trees mean
abbrev pub entries_view : List (String Global × Tree) → Entries
entries_view es = entries_of (map (λ e. (e.0, tree_view e.1)) es)
