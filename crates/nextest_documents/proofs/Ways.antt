-- Where ways end, and what is hidden.
use Rattle.std.proofs.Common.{◌≡◌, ◌==◌, ℕ, ◌<◌, false, List, [], ◌∷◌, ◌++◌, length, Option, Some, None, option_map, option_and_then, Bor, refl, sym, ap, ◌∙◌, arith}
use Rattle.std.specs.Option.{option_map_or}
use Rattle.nextest_tree.specs.Node.{Node, table, Entries, get, as_table}
use Rattle.nextest_documents.specs.Shown.{Path, Kind, a_table, a_leaf, kind_of, node_at, HasLeafAlong, Hides, by_leaf, by_table}
use Rattle.nextest_documents.specs.Along.{lost, blocked, whole, way_along, node_along, leaf_of}
use Rattle.nextest_documents.specs.Layers.{keys_view, layer_view}
use Rattle.nextest_tree.specs.declared.tree.Tree.{Tree}

-- a way that is lost leads to nothing
lost_at : (ks : Path) (o : Option Node) → option_map_or (way_along ks) o lost ≡ lost
    → ((n : Node) → way_along ks n ≡ lost → node_at ks n ≡ None) → option_and_then (node_at ks) o ≡ None
lost_at ks None is ih = refl
lost_at ks (Some n) is ih = ih n is

pub lost_none : (p : Path) (n : Node) → way_along p n ≡ lost → node_at p n ≡ None
lost_none [] n is = cc
lost_none (k ∷ ks) (table es) is = lost_at ks (get k es) is (λ n. lost_none ks n)
lost_none (k ∷ ks) n is = refl

blocked_at : (ks : Path) (o : Option Node) → option_map_or (way_along ks) o lost ≡ blocked
    → ((n : Node) → way_along ks n ≡ blocked → node_at ks n ≡ None) → option_and_then (node_at ks) o ≡ None
blocked_at ks None is ih = refl
blocked_at ks (Some n) is ih = ih n is

pub blocked_none : (p : Path) (n : Node) → way_along p n ≡ blocked → node_at p n ≡ None
blocked_none [] n is = cc
blocked_none (k ∷ ks) (table es) is = blocked_at ks (get k es) is (λ n. blocked_none ks n)
blocked_none (k ∷ ks) n is = refl

-- a way that is whole leads to something
whole_at : (ks : Path) (o : Option Node) → option_map_or (way_along ks) o lost ≡ whole
    → ((n : Node) → way_along ks n ≡ whole → (k : Kind) × (node_at ks n ≡ Some k))
    → (k : Kind) × (option_and_then (node_at ks) o ≡ Some k)
whole_at ks None is ih = cc
whole_at ks (Some n) is ih = ih n is

pub whole_some : (p : Path) (n : Node) → way_along p n ≡ whole → (k : Kind) × (node_at p n ≡ Some k)
whole_some [] n is = (kind_of n, refl)
whole_some (k ∷ ks) (table es) is = whole_at ks (get k es) is (λ n. whole_some ks n)
whole_some (k ∷ ks) n is = cc

-- no leaf is along a way that is lost
lost_along_at : (ks rest : Path) (v : Node) (o : Option Node) → option_map_or (way_along (ks ++ rest)) o lost ≡ lost
    → ((n : Node) → way_along (ks ++ rest) n ≡ lost → node_at ks n ≡ Some (a_leaf v) → ⊥)
    → option_and_then (node_at ks) o ≡ Some (a_leaf v) → ⊥
lost_along_at ks rest v None is ih at = cc
lost_along_at ks rest v (Some n) is ih at = ih n is at

lost_here : (rest : Path) (n v : Node) → way_along rest n ≡ lost → Some (kind_of n) ≡ Some (a_leaf v) → ⊥
lost_here [] n v is at = cc
lost_here (k ∷ ks) (table es) v is at = cc
lost_here (k ∷ ks) n v is at = cc

lost_along : (front rest : Path) (n v : Node) → way_along (front ++ rest) n ≡ lost
    → node_at front n ≡ Some (a_leaf v) → ⊥
lost_along [] rest n v is at = lost_here rest n v is at
lost_along (k ∷ ks) rest (table es) v is at = lost_along_at ks rest v (get k es) is (λ n. lost_along ks rest n v) at
lost_along (k ∷ ks) rest n v is at = cc

-- so nothing at its path is hidden
pub lost_hides : (p : Path) (n : Node) (k : Kind) → way_along p n ≡ lost → Hides n p k → ⊥
lost_hides p n k is (by_leaf l) =
    let way : way_along (l.front ++ l.rest) n ≡ lost = ap (λ q. way_along q n) (sym l.splits) ∙ is in
    lost_along l.front l.rest n l.value way l.leaf
lost_hides p n (a_leaf v) is (by_table there) = let bad : None ≡ Some a_table = sym (lost_none p n is) ∙ there in cc

-- a leaf is along a way that is blocked
up : (k : List ℕ) (ks : Path) (es : Entries) (n : Node) → get k es ≡ Some n → HasLeafAlong n ks
    → HasLeafAlong (table es) (k ∷ ks)
up k ks es n at l = record
    { front = k ∷ l.front; rest = l.rest; value = l.value; splits = ap (λ t. k ∷ t) l.splits; leaf = rw at l.leaf }

leaf_first : (p : Path) (n : Node) → node_at [] n ≡ Some (a_leaf n) → HasLeafAlong n p
leaf_first p n is = record { front = []; rest = p; value = n; splits = refl; leaf = is }

along_at : (k : List ℕ) (ks : Path) (es : Entries) (o : Option Node) → get k es ≡ o
    → option_map_or (way_along ks) o lost ≡ blocked → ((n : Node) → way_along ks n ≡ blocked → HasLeafAlong n ks)
    → HasLeafAlong (table es) (k ∷ ks)
along_at k ks es None at is ih = cc
along_at k ks es (Some n) at is ih = up k ks es n at (ih n is)

blocked_along : (p : Path) (n : Node) → way_along p n ≡ blocked → HasLeafAlong n p
blocked_along [] n is = cc
blocked_along (k ∷ ks) (table es) is = along_at k ks es (get k es) refl is (λ n. blocked_along ks n)
blocked_along (k ∷ ks) n is = leaf_first (k ∷ ks) n refl

pub blocked_hides : (p : Path) (n : Node) (k : Kind) → way_along p n ≡ blocked → Hides n p k
blocked_hides p n k is = by_leaf (blocked_along p n is)

-- what is at a path, by its kind
kinds_at : (ks : Path) (o : Option Node) → ((n : Node) → node_at ks n ≡ option_map kind_of (node_along ks n))
    → option_and_then (node_at ks) o ≡ option_map kind_of (option_and_then (node_along ks) o)
kinds_at ks None ih = refl
kinds_at ks (Some n) ih = ih n

pub kinds : (p : Path) (n : Node) → node_at p n ≡ option_map kind_of (node_along p n)
kinds [] n = refl
kinds (k ∷ ks) (table es) = kinds_at ks (get k es) (kinds ks)
kinds (k ∷ ks) n = refl

-- the leaf at a path, by its kind
pub leaf_kind : (o : Option Node) (v : Node) → option_and_then leaf_of o ≡ Some v
    → option_map kind_of o ≡ Some (a_leaf v)
leaf_kind None v is = cc
leaf_kind (Some (table es)) v is = cc
leaf_kind (Some n) v is = let same : n ≡ v = cc in ap (λ m. Some (a_leaf m)) same

pub kind_leaf : (o : Option Node) (v : Node) → option_map kind_of o ≡ Some (a_leaf v)
    → option_and_then leaf_of o ≡ Some v
kind_leaf None v is = cc
kind_leaf (Some (table es)) v is = cc
kind_leaf (Some n) v is = let same : n ≡ v = cc in ap Some same

-- a way from what is not a table
pub blocked_off : (keys : List (Bor (List ℕ))) (n : Node) → as_table n ≡ None → 0 < length keys
    → blocked ≡ way_along (keys_view keys) n
blocked_off [] n is some = absurd (omega arith)
blocked_off (k ∷ ks) (table es) is some = cc
blocked_off (k ∷ ks) n is some = refl

-- a way in a layer without a document
pub lost_without : (layer : Option (Bor Tree)) (keys : List (Bor (List ℕ))) → layer ≡ None → (length keys == 0) ≡ false
    → lost ≡ way_along (keys_view keys) (layer_view layer)
lost_without None [] is some = cc
lost_without None (k ∷ ks) is some = refl
lost_without (Some tree) keys is some = cc
