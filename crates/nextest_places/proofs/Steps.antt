-- A step into a tree, and into its node.
use Rattle.std.proofs.Common.{◌≡◌, ℕ, zero, suc, ◌<◌, ◌≤◌, List, [], ◌∷◌, length, get_or, Option, Some, None, option_map, Bor, refl, sym, ap, ◌∙◌, arith}
use Rattle.std.specs.Slice.{IsItemAt}
use Rattle.nextest_tree.specs.Node.{Node, as_array}
use Rattle.nextest_tree.specs.View.{tree_view, nodes_view}
use Rattle.nextest_tree.specs.declared.tree.Tree.{Tree}
use Rattle.nextest_places.specs.declared.step.Step.{Step}
use Rattle.nextest_places.specs.declared.step.Step.TheVariants.{Position}
use Rattle.nextest_places.specs.Path.{item_at, step_into}

past : (ts : List Tree) (i : ℕ) → length ts ≤ i → item_at i (nodes_view ts) ≡ None
past [] i h = refl
past (t ∷ ts) zero h = absurd (omega arith)
past (t ∷ ts) (suc i) h = past ts i (omega arith)

within : (ts : List Tree) (i : ℕ) (d : Tree) → i < length ts
    → item_at i (nodes_view ts) ≡ Some (tree_view (get_or ts i d))
within [] i d h = absurd (omega arith)
within (t ∷ ts) zero d h = refl
within (t ∷ ts) (suc i) d h = within ts i d (omega arith)

-- the item that a slice lends
item_there : (ts : List Tree) (i : ℕ) (r : Option (Bor Tree)) → IsItemAt ts i r
    → option_map (λ t. tree_view t.now) r ≡ item_at i (nodes_view ts)
item_there ts i None told = sym (past ts i told.3)
item_there ts i (Some x) told =
    ap (λ t. Some (tree_view t)) told.1 ∙ sym (within ts i x.now told.3.0)

-- a position leads to what a slice lends
pub position_into : (step : Step) (i : ℕ) (n : Node) (ts : List Tree) (r : Option (Bor Tree)) → step ≡ Position i
    → Some (nodes_view ts) ≡ as_array n → IsItemAt ts i r → option_map (λ t. tree_view t.now) r ≡ step_into step n
position_into step i n ts r is items told = item_there ts i r told ∙ rw (is, ← items) refl
