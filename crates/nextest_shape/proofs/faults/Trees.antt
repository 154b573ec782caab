-- Trees as the nodes that they mean.
use Rattle.std.proofs.Common.{◌≡◌, List, [], ◌∷◌, None, String, Global, length, string_bytes, rules, refl}
use Rattle.nextest_tree.specs.Node.{text}
use Rattle.nextest_tree.specs.View.{nodes_view, tree_view}
use Rattle.nextest_tree.specs.declared.tree.Tree as trees
use Rattle.nextest_tree.specs.declared.tree.Tree.{Tree}
use Rattle.nextest_scripts.specs.CommandLine.{list_cause}

pub view-Text : (s : String Global) → tree_view (trees.Text s) ≡ text (string_bytes s)
view-Text s = search (rules, trees.the_lemmas)

-- a list with an item has a first one
pub first_there : (ts : List Tree) → (length ts ≡ 0 → ⊥) → list_cause (nodes_view ts) ≡ None
first_there [] some = absurd (some refl)
first_there (t ∷ ts) some = refl
