-- The node that a document's value means.
use Rattle.toml.specs.Data.{Data, Items, Members}
use Rattle.toml.specs.Data as toml
use Rattle.nextest_tree.specs.Node.{Node, table, array, text, int, bool, opaque, Nodes, no_nodes, node, Entries, no_entries, entry}

abbrev mutual
  -- what a document's value reads to: a float, a date and a time are opaque
  pub from_data : Data → Node
  from_data (toml.string s) = text s
  from_data (toml.integer z) = int z
  from_data (toml.float x) = opaque
  from_data (toml.boolean b) = bool b
  from_data (toml.datetime dt) = opaque
  from_data (toml.array ds) = array (from_items ds)
  from_data (toml.table ms) = table (from_members ms)

  -- what the items of a document's array read to
  pub from_items : Items → Nodes
  from_items toml.no_items = no_nodes
  from_items (toml.item d ds) = node (from_data d) (from_items ds)

  -- what the members of a document's table read to
  pub from_members : Members → Entries
  from_members toml.no_members = no_entries
  from_members (toml.member k d ms) = entry k (from_data d) (from_members ms)
