-- Which items of lists are reported.
use Rattle.std.proofs.Common.{◌≡◌, ◌<◌, ◌≤◌, ◌∙◌, ℕ, zero, suc, List, [], ◌∷◌, true, false, None, ap, arith, get_or, length, map, refl, String, sym, take}
use Rattle.std.proofs.lemmas.List.{take_all}
use Rattle.std.specs.declared.alloc.Global.{Global}
use Rattle.nextest_tree.specs.Node.{Node, table, array, text, int, bool, opaque, as_text}
use Rattle.nextest_tree.specs.View.{nodes_of, tree_view}
use Rattle.nextest_tree.specs.declared.tree.Tree.{Tree}
use Rattle.rinqebo_origins.specs.LeafValue.{text_node, are_texts, AreItems}

-- texts are reported
all_texts : (texts : List (String Global)) → are_texts (nodes_of (map text_node texts)) ≡ true
all_texts [] = refl
all_texts (t ∷ texts) = all_texts texts

-- texts are all items of a list
pub are_items : (items : List Tree) (n : ℕ) (texts : List (String Global)) → length items ≤ n
    → map text_node texts ≡ map tree_view (take n items) → AreItems (nodes_of (map tree_view items)) texts
are_items items n texts all same =
    let whole = ap nodes_of (same ∙ ap (map tree_view) (take_all n items all)) in
    record {
      told = ap are_texts (sym whole) ∙ all_texts texts;
      same = whole;
    }

-- behind an item that is not a text
no_text : (item : Node) (items : List Node) → None ≡ as_text item → are_texts (nodes_of (item ∷ items)) ≡ false
no_text (table es) items none = refl
no_text (array nodes) items none = refl
no_text (text t) items none = absurd (cc)
no_text (int z) items none = refl
no_text (bool b) items none = refl
no_text opaque items none = refl

-- before items that are not texts
behind : (item : Node) (items : List Node) → are_texts (nodes_of items) ≡ false
    → are_texts (nodes_of (item ∷ items)) ≡ false
behind (table es) items none = refl
behind (array nodes) items none = refl
behind (text t) items none = none
behind (int z) items none = refl
behind (bool b) items none = refl
behind opaque items none = refl

-- a list with an item that is not a text
pub not_texts : (items : List Tree) (n : ℕ) (item : Tree) → n < length items → item ≡ get_or items n item
    → None ≡ as_text (tree_view item) → are_texts (nodes_of (map tree_view items)) ≡ false
not_texts [] n item within at none = absurd (omega arith)
not_texts (first ∷ items) zero item within at none =
    no_text (tree_view first) (map tree_view items) (none ∙ ap (λ t. as_text (tree_view t)) at)
not_texts (first ∷ items) (suc n) item within at none =
    behind (tree_view first) (map tree_view items) (not_texts items n item (omega arith) at none)
