-- What steps lead to in a tree.
use Rattle.std.proofs.Common.{◌≡◌, ◌∙◌, ℕ, zero, suc, ◌<◌, ◌≤◌, List, [], ◌∷◌, length, get_or, Option, Some, None, option_and_then, option_map, Bor, refl, sym, ap, arith}
use Rattle.std.specs.Slice.{IsItemAt}
use Rattle.nextest_tree.specs.Node.{Node, as_array, member_of}
use Rattle.nextest_tree.specs.View.{tree_view, nodes_view}
use Rattle.nextest_tree.specs.declared.tree.Tree.{Tree}
use Rattle.nextest_places.proofs.Steps.{position_into}
use Rattle.nextest_places.specs.declared.step.Step.TheVariants.{Position}
use Rattle.nextest_places.specs.Path.{item_at}
use Rattle.rinqebo_origins.specs.AsWritten.{node_at, step_node}
use Rattle.rinqebo_origins.specs.Origins.{PathStep, key, position}

-- nothing leads to nothing
pub from_none : (steps : List PathStep) → node_at steps None ≡ None
from_none [] = refl
from_none (step ∷ steps) = from_none steps

-- a key and a position lead to what a slice lends
pub rule_there : (ts : List Tree) (i : ℕ) (r : Option (Bor Tree)) (name : List ℕ) (profile list : Node)
    → Some list ≡ member_of name profile → Some (nodes_view ts) ≡ as_array list → IsItemAt ts i r
    → option_map (λ t. tree_view t.now) r ≡ node_at (key name ∷ position i ∷ []) (Some profile)
rule_there ts i r name profile list has items lent =
    position_into (Position i) i list ts r refl items lent
    ∙ ap (option_and_then (step_node (position i))) has
