-- The nodes of a document that items lead to, and items that read as these.
use denote.Ref.{Bor}
use Rattle.std.specs.Prelude.{◌≡◌, ℕ, true, List, [], ◌∷◌, ◌++◌, map, slice_get, Option, Some, None, is_some, option_map, option_and_then, string_bytes}
use Rattle.toml.specs.Data.{Data, string, integer, float, boolean, datetime, array, table, as_str, as_integer, as_float, as_bool, as_datetime, as_array, as_table, at, get}
use Rattle.toml.specs.Parse.{parse_value}
use Rattle.toml.specs.View.{view}
use Rattle.toml.specs.declared.value.Value.{Value}
use Rattle.nextest_places.specs.declared.spans.item.Item.{Item}
use Rattle.nextest_places.specs.declared.spans.item.Role.{Role}
use Rattle.nextest_places.specs.declared.spans.item.Role.TheVariants as role
use Rattle.nextest_places.specs.Spans.Items.{IsSpan}
use Rattle.nextest_places.specs.Spans.Tokens.{text_at}

-- the item of a list at a position
abbrev pub element_of : ℕ → Option Data → Option Data
element_of position None = None
element_of position (Some node) = at position node

-- where an item leads from the node that it is inside: a part of a key to what this has at the
-- name, and there to its element; an item of a list to the one at its position; the value of a key
-- stays
abbrev pub enter : Role → Data → Option Data
enter (role.Key None kind element) node = None
enter (role.Key (Some name) kind None) node = get (string_bytes name) node
enter (role.Key (Some name) kind (Some position)) node =
    element_of position (get (string_bytes name) node)
enter (role.Value None container) node = Some node
enter (role.Value (Some position) container) node = at position node

abbrev pub joined : Option (Option Data) → Option Data
joined None = None
joined (Some node) = node

-- the node that an item is inside: the root, or the node of its parent, which is an earlier one
abbrev pub base_of : Data → List (Option Data) → Option ℕ → Option Data
base_of root found None = Some root
base_of root found (Some parent) = joined (slice_get found parent)

abbrev pub node_of : Data → List (Option Data) → Item → Option Data
node_of root found item = option_and_then (enter item.role) (base_of root found item.parent)

-- the nodes of items, one after another, behind those of the items before them
abbrev pub nodes_from : Data → List (Option Data) → List Item → List (Option Data)
nodes_from root found [] = found
nodes_from root found (item ∷ items) = nodes_from root (found ++ node_of root found item ∷ []) items

-- the node that each item of a text leads to in a document, if it leads to one
abbrev pub nodes_of : Data → List Item → List (Option Data)
nodes_of root items = nodes_from root [] items

abbrev pub node_view : Option (Bor Value) → Option Data
node_view node = option_map (λ v. view v.now) node

abbrev pub nodes_view : List (Option (Bor Value)) → List (Option Data)
nodes_view nodes = map node_view nodes

-- a node is what a string, an integer or a boolean is; of a float, a date-time, a list or a table
-- it is of the kind
abbrev pub IsSame : Data → Data → Type 0
IsSame (string bytes) node = Some bytes ≡ as_str node
IsSame (integer number) node = Some number ≡ as_integer node
IsSame (boolean flag) node = Some flag ≡ as_bool node
IsSame (float number) node = is_some (as_float node) ≡ true
IsSame (datetime date) node = is_some (as_datetime node) ≡ true
IsSame (array ds) node = is_some (as_array node) ≡ true
IsSame (table ms) node = is_some (as_table node) ≡ true

-- the item's bytes read as a value that is the same as the node
pub record ReadsAs (text : List ℕ) (item : Item) (node : Data) : Type 0 where
  pub span : IsSpan text item.span
  pub value : Data
  pub read : parse_value (text_at text item.span) ≡ Some value
  pub same : IsSame value node
