-- What a node has along a path.
use Rattle.std.specs.Prelude.{ℕ, List, [], ◌∷◌, Option, Some, None, option_and_then, option_map, slice_get}
use denote.Ref.{Bor}
use Rattle.std.specs.Option.{option_map_or}
use Rattle.nextest_tree.specs.Node.{Node, table, get, member_of}
use Rattle.nextest_tree.specs.View.{tree_view}
use Rattle.nextest_tree.specs.declared.tree.Tree.{Tree}
use Rattle.nextest_documents.specs.Shown.{Path}
use Rattle.nextest_documents.specs.declared.along.Way.{Way}
use Rattle.nextest_documents.specs.declared.along.Way.TheVariants.{Lost, Blocked, Whole}

-- a way along a path is lost at a table that lacks the next key, blocked by what is not a table
-- before the path ends, or whole
pub data Ending : Type 0 where
  lost : Ending
  blocked : Ending
  whole : Ending

abbrev pub way_view : Way → Ending
way_view Lost = lost
way_view Blocked = blocked
way_view Whole = whole

-- where the way along a path ends
abbrev pub way_along : Path → Node → Ending
way_along [] n = whole
way_along (k ∷ ks) (table es) = option_map_or (way_along ks) (get k es) lost
way_along (k ∷ ks) _ = blocked

-- what is at a path
abbrev pub node_along : Path → Node → Option Node
node_along [] n = Some n
node_along (k ∷ ks) n = option_and_then (node_along ks) (member_of k n)

-- a node that is not a table
abbrev pub leaf_of : Node → Option Node
leaf_of (table es) = None
leaf_of n = Some n

-- what is at a path in the document of the layer at a position
abbrev pub node_in : List (Option (Bor Tree)) → ℕ → Path → Option Node
node_in layers position p = option_and_then (node_along p)
    (option_and_then (option_map (λ tree. tree_view tree.now)) (slice_get layers position))

-- the leaf that is there
abbrev pub leaf_in : List (Option (Bor Tree)) → ℕ → Path → Option Node
leaf_in layers position p = option_and_then leaf_of (node_in layers position p)
