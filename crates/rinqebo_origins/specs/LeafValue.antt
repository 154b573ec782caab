-- The values of leaves as they are reported.
use Rattle.std.specs.Prelude.{◌≡◌, List, Bool, true, false, map, String, string_bytes}
use Rattle.std.specs.declared.alloc.Global.{Global}
use Rattle.nextest_tree.specs.Node.{Node, table, array, text, int, bool, opaque, Nodes, no_nodes, node}
use Rattle.nextest_tree.specs.View.{nodes_of, entries_of}
use Rattle.rinqebo_report.specs.Durations.{duration_text}
use Rattle.rinqebo_report.specs.declared.value.Scalar.{Scalar}
use Rattle.rinqebo_report.specs.declared.value.Scalar.TheVariants as scalars
use Rattle.rinqebo_report.specs.declared.value.Value.{Value}
use Rattle.rinqebo_report.specs.declared.value.Value.TheVariants as values

-- what a file writes for a text
abbrev pub text_node : String Global → Node
text_node t = text (string_bytes t)

-- what a file writes for a value that holds no others
abbrev pub scalar_node : Scalar → Node
scalar_node (scalars.Boolean b) = bool b
scalar_node (scalars.Integer z) = int z
scalar_node (scalars.Text t) = text_node t
scalar_node (scalars.Duration d) = text (duration_text d.nanoseconds)

-- what a file writes for a value
abbrev pub value_node : Value → Node
value_node (values.Scalar scalar) = scalar_node scalar
value_node (values.Texts texts) = array (nodes_of (map text_node texts.items))
value_node (values.Table fields) =
    table (entries_of (map (λ field. (field.key, scalar_node field.value)) fields.items))

-- whether items are texts
abbrev pub are_texts : Nodes → Bool
are_texts no_nodes = true
are_texts (node (text t) items) = are_texts items
are_texts (node item items) = false

-- Whether a report can show the value of a leaf: a text, a number, a truth value, or a list of
-- texts.
abbrev pub is_tellable : Node → Bool
is_tellable (table es) = false
is_tellable (array items) = are_texts items
is_tellable opaque = false
is_tellable leaf = true

-- Texts are the items of a list.
pub record AreItems (items : Nodes) (texts : List (String Global)) : Type 0 where
  pub told : are_texts items ≡ true
  pub same : nodes_of (map text_node texts) ≡ items

-- whether a value is as a file spells it: a file has no length of time, but a text that spells it
abbrev pub is_spelled : Value → Bool
is_spelled (values.Scalar (scalars.Duration duration)) = false
is_spelled value = true

-- A value is that of a leaf: a file writes the leaf for it, and it is reported as the file spells
-- it.
pub record IsValueOf (leaf : Node) (value : Value) : Type 0 where
  pub told : is_tellable leaf ≡ true
  pub same : value_node value ≡ leaf
  pub spelled : is_spelled value ≡ true
