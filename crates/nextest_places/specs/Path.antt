-- Paths into a document, by keys and positions.
use Rattle.std.specs.Prelude.{ℕ, zero, suc, List, [], ◌∷◌, Bool, Option, Some, None, is_some, option_and_then}
use Rattle.nextest_tree.specs.Node.{Node, Nodes, no_nodes, node, as_array, member_of}
use Rattle.nextest_places.specs.declared.step.Step.{Step}
use Rattle.nextest_places.specs.declared.step.Step.TheVariants.{Key, Position}

-- the item at a position, counted from 0
abbrev pub item_at : ℕ → Nodes → Option Node
item_at i no_nodes = None
item_at zero (node n ns) = Some n
item_at (suc i) (node n ns) = item_at i ns

-- a key leads to what a table has at it, and a position to what an array has there
abbrev pub step_into : Step → Node → Option Node
step_into (Key k) n = member_of k.now n
step_into (Position i) n = option_and_then (item_at i) (as_array n)

-- what the steps lead to, one after another
abbrev pub stands_at : List Step → Node → Option Node
stands_at [] n = Some n
stands_at (step ∷ path) n = option_and_then (stands_at path) (step_into step n)

-- a document has a path if its steps lead to something
abbrev pub has_path : List Step → Node → Bool
has_path path document = is_some (stands_at path document)
