-- The leaf that a layer shows at a path.
use Rattle.std.proofs.Common.{◌≡◌, ℕ, ◌≤◌, true, List, [], ◌∷◌, ◌++◌, length, map, Option, Some, None, option_map, option_and_then, is_some, Bor, refl, sym, ap, ◌∙◌, subst, arith}
use Rattle.std.proofs.lemmas.List.{append-nil}
use Rattle.std.proofs.lemmas.Option.{slice_get-map}
use Rattle.std.specs.List.{AllByRecursion, slice_get}
use Rattle.nextest_tree.specs.Node.{Node, table, no_entries, get}
use Rattle.nextest_tree.specs.View.{tree_view}
use Rattle.nextest_tree.specs.declared.tree.Tree.{Tree}
use Rattle.nextest_documents.specs.Shown.{Path, Kind, a_table, a_leaf, node_at, Hides, by_leaf, by_table}
use Rattle.nextest_documents.specs.Along.{node_along, node_in, leaf_of, leaf_in}
use Rattle.nextest_documents.specs.Grounds.{ShowsLeaf, ShowsLeafBelow}
use Rattle.nextest_documents.specs.Leaves.{leaf_paths}
use Rattle.nextest_documents.specs.Layers.{layer_view, layers_view, IsShownBy, IsHighest}
use Rattle.nextest_documents.proofs.Lists.{In, here, there, in_map, all_at, not_behind}
use Rattle.nextest_documents.proofs.LeafPaths.{has_path}
use Rattle.nextest_documents.proofs.Ways.{kinds, leaf_kind, kind_leaf}

-- the layer at a position has a leaf at a path
abbrev pub HasLeaf : List Node → ℕ → Path → Node → Type 0
HasLeaf layers i p v = (n : Node) × (slice_get layers i ≡ Some n) × (node_at p n ≡ Some (a_leaf v))

-- what a layer's document has at a path
abbrev tree_of : Option (Bor Tree) → Option Node
tree_of layer = option_map (λ tree. tree_view tree.now) layer

leaf_of_layer : (ls : List (Option (Bor Tree))) (i : ℕ) (p : Path) (v : Node) (o : Option (Option (Bor Tree)))
    → slice_get ls i ≡ o → option_and_then leaf_of (option_and_then (node_along p) (option_and_then tree_of o)) ≡ Some v
    → HasLeaf (layers_view ls) i p v
leaf_of_layer ls i p v None at is = cc
leaf_of_layer ls i p v (Some None) at is = cc
leaf_of_layer ls i p v (Some (Some tree)) at is = (
  tree_view tree.now,
  slice_get-map layer_view ls i ∙ ap (option_map layer_view) at,
  kinds p (tree_view tree.now) ∙ leaf_kind (node_along p (tree_view tree.now)) v is,
)

pub has_leaf : (ls : List (Option (Bor Tree))) (i : ℕ) (p : Path) (v : Node) → leaf_in ls i p ≡ Some v
    → HasLeaf (layers_view ls) i p v
has_leaf ls i p v is = leaf_of_layer ls i p v (slice_get ls i) refl is

no_leaf : (p : Path) (v : Node) → node_at p (table no_entries) ≡ Some (a_leaf v) → ⊥
no_leaf [] v at = cc
no_leaf (k ∷ ks) v at = cc

layer_of_leaf : (ls : List (Option (Bor Tree))) (i : ℕ) (p : Path) (v n : Node) (o : Option (Option (Bor Tree)))
    → slice_get ls i ≡ o → option_map layer_view o ≡ Some n → node_at p n ≡ Some (a_leaf v)
    → option_and_then leaf_of (option_and_then (node_along p) (option_and_then tree_of o)) ≡ Some v
layer_of_leaf ls i p v n None at stood leaf = cc
layer_of_leaf ls i p v n (Some None) at stood leaf =
    let empty : table no_entries ≡ n = cc in absurd (no_leaf p v (ap (node_at p) empty ∙ leaf))
layer_of_leaf ls i p v n (Some (Some tree)) at stood leaf =
    let same : tree_view tree.now ≡ n = cc in
    kind_leaf (node_along p (tree_view tree.now)) v
    (sym (kinds p (tree_view tree.now)) ∙ ap (node_at p) same ∙ leaf)

pub leaf_is : (ls : List (Option (Bor Tree))) (i : ℕ) (p : Path) (v : Node) → HasLeaf (layers_view ls) i p v
    → leaf_in ls i p ≡ Some v
leaf_is ls i p v (n, stood, leaf) =
    rw (layer_of_leaf ls i p v n (slice_get ls i) refl (sym (slice_get-map layer_view ls i) ∙ stood) leaf) refl

at_split : (below above : List Node) (x : Node) → slice_get (below ++ x ∷ above) (length below) ≡ Some x
at_split [] above x = refl
at_split (y ∷ below) above x = at_split below above x

-- a layer that shows a node has it
pub has_shown_leaf : (layers : List Node) (i : ℕ) (p : Path) (v : Node) → IsShownBy layers p (a_leaf v) i
    → HasLeaf layers i p v
has_shown_leaf layers i p v s =
    let shown = s.shown in (
      shown.layer,
      ap (λ j. slice_get layers j) (sym s.position_is) ∙ ap (λ l. slice_get l (length shown.below)) shown.splits
          ∙ at_split shown.below shown.above shown.layer,
      shown.there,
    )

same_kind : (k l : Kind) → Some k ≡ Some l → k ≡ l
same_kind k l e = cc

-- the highest layer that shows something at a path shows the leaf that it has there
pub shown_there : (layers : List Node) (i : ℕ) (p : Path) (v : Node) → IsHighest layers p i → HasLeaf layers i p v
    → IsShownBy layers p (a_leaf v) i
shown_there layers i p v highest (n, at, leaf) =
    let s = highest.shown in
    let shown = s.shown in
    let stood : slice_get layers i ≡ Some shown.layer =
    ap (λ j. slice_get layers j) (sym s.position_is) ∙ ap (λ l. slice_get l (length shown.below)) shown.splits
    ∙ at_split shown.below shown.above shown.layer in
    let same : shown.layer ≡ n = cc in
    let kind : highest.kind ≡ a_leaf v =
    same_kind highest.kind (a_leaf v) (sym shown.there ∙ ap (node_at p) same ∙ leaf) in
    subst (λ k. IsShownBy layers p k i) kind s

-- what is at the very path of a leaf hides it
hides_leaf : (p : Path) (n v : Node) (k : Kind) → node_at p n ≡ Some k → Hides n p (a_leaf v)
hides_leaf p n v a_table at = by_table at
hides_leaf p n v (a_leaf w) at =
    by_leaf (record { front = p; rest = []; value = w; splits = sym (append-nil p); leaf = at })

-- no layer above one that shows a leaf shows anything there
pub none_above : (layers : List Node) (i j : ℕ) (p : Path) (v : Node) (k : Kind) → IsShownBy layers p (a_leaf v) i
    → IsShownBy layers p k j → j ≤ i
none_above layers i j p v k s t =
    let lower = s.shown in
    let higher = t.shown in
    let bound = not_behind (λ n. Hides n p (a_leaf v) → ⊥) lower.layer higher.layer lower.above higher.above
    lower.unhidden (λ unhidden. unhidden (hides_leaf p higher.layer v k higher.there)) lower.below higher.below
    (sym lower.splits ∙ higher.splits) in
    let low = s.position_is in
    let high = t.position_is in
    omega (arith, bound, low, high)

-- a layer that shows a leaf is the highest that shows something at its path
pub is_highest : (layers : List Node) (i j : ℕ) (p : Path) → ShowsLeaf layers p i → IsHighest layers p j → j ≡ i
is_highest layers i j p shows highest =
    let upper = none_above layers i j p shows.value highest.kind shows.shown highest.shown in
    let lower = highest.highest (a_leaf shows.value) i shows.shown in
    omega (arith, upper, lower)

some_view : (r : Option (Bor Tree)) (o : Option Node) → option_map (λ tree. tree_view tree.now) r ≡ o
    → is_some r ≡ true → (v : Node) × (o ≡ Some v)
some_view None o is some = cc
some_view (Some tree) o is some = (tree_view tree.now, sym is)

view_some : (r : Option (Bor Tree)) (o : Option Node) (v : Node) → option_map (λ tree. tree_view tree.now) r ≡ o
    → o ≡ Some v → is_some r ≡ true
view_some None o v is some = cc
view_some (Some tree) o v is some = refl

module _ (ls : List (Option (Bor Tree))) (i : ℕ) (p : Path) (r : Option (Bor Tree))
    (is : option_map (λ tree. tree_view tree.now) r ≡ leaf_in ls i p) where
  -- a leaf in the highest layer that shows something is shown
  pub shows_if : IsHighest (layers_view ls) p i → is_some r ≡ true → ShowsLeaf (layers_view ls) p i
  shows_if highest some =
      let (v, stood) = some_view r (leaf_in ls i p) is some in
      record { value = v; shown = shown_there (layers_view ls) i p v highest (has_leaf ls i p v stood) }

  pub only_if : ShowsLeaf (layers_view ls) p i → is_some r ≡ true
  only_if shows =
      view_some r (leaf_in ls i p) shows.value is
      (leaf_is ls i p shows.value (has_shown_leaf (layers_view ls) i p shows.value shows.shown))

same_node : (n m : Node) → Some n ≡ Some m → n ≡ m
same_node n m e = cc

behind_path : (p q : Path) (rests : List Path) → In q (map (λ r. p ++ r) rests) → (rest : Path) × (q ≡ p ++ rest)
behind_path p q [] i = elim i [ ]
behind_path p q (r ∷ rests) here = (r, refl)
behind_path p q (r ∷ rests) (there i) = behind_path p q rests i

-- a leaf below a path is one of what is at the path
rest_at : (ks rest : Path) (v : Node) (o : Option Node)
    → ((n : Node) → node_at (ks ++ rest) n ≡ Some (a_leaf v)
    → (m : Node) × (node_along ks n ≡ Some m) × (node_at rest m ≡ Some (a_leaf v)))
    → option_and_then (node_at (ks ++ rest)) o ≡ Some (a_leaf v)
    → (m : Node) × (option_and_then (node_along ks) o ≡ Some m) × (node_at rest m ≡ Some (a_leaf v))
rest_at ks rest v None ih is = cc
rest_at ks rest v (Some n) ih is = ih n is

along_rest : (p rest : Path) (n v : Node) → node_at (p ++ rest) n ≡ Some (a_leaf v)
    → (m : Node) × (node_along p n ≡ Some m) × (node_at rest m ≡ Some (a_leaf v))
along_rest [] rest n v is = (n, refl, is)
along_rest (k ∷ ks) rest (table es) v is = rest_at ks rest v (get k es) (λ n. along_rest ks rest n v) is
along_rest (k ∷ ks) rest n v is = cc

below_at : (ls : List (Option (Bor Tree))) (i : ℕ) (p rest : Path) (v n : Node) (o : Option (Option (Bor Tree)))
    → slice_get ls i ≡ o → option_map layer_view o ≡ Some n → node_at (p ++ rest) n ≡ Some (a_leaf v)
    → (m : Node) × (option_and_then (node_along p) (option_and_then tree_of o) ≡ Some m)
    × (node_at rest m ≡ Some (a_leaf v))
below_at ls i p rest v n None at stood leaf = cc
below_at ls i p rest v n (Some None) at stood leaf =
    let empty : table no_entries ≡ n = cc in
    absurd (no_leaf (p ++ rest) v (ap (node_at (p ++ rest)) empty ∙ leaf))
below_at ls i p rest v n (Some (Some tree)) at stood leaf =
    let same : tree_view tree.now ≡ n = cc in
    along_rest p rest (tree_view tree.now) v (ap (node_at (p ++ rest)) same ∙ leaf)

below_leaf : (ls : List (Option (Bor Tree))) (i : ℕ) (p rest : Path) (v : Node)
    → HasLeaf (layers_view ls) i (p ++ rest) v
    → (m : Node) × (node_in ls i p ≡ Some m) × (node_at rest m ≡ Some (a_leaf v))
below_leaf ls i p rest v (n, stood, leaf) =
    below_at ls i p rest v n (slice_get ls i) refl (sym (slice_get-map layer_view ls i) ∙ stood) leaf

module _ (ls : List (Option (Bor Tree))) (i : ℕ) (p : Path) where
  -- nothing is at the path
  pub none_below : node_in ls i p ≡ None → ShowsLeafBelow (layers_view ls) p i → ⊥
  none_below none shows =
      let leaf = has_shown_leaf (layers_view ls) i (p ++ shows.rest) shows.leaf.value shows.leaf.shown in
      let (m, at, stood) = below_leaf ls i p shows.rest shows.leaf.value leaf in
      let bad : None ≡ Some m = sym none ∙ at in cc

  module _ (n : Node) (paths : List Path) (stands : Some n ≡ node_in ls i p)
      (all : paths ≡ map (λ q. p ++ q) (leaf_paths n)) where
    -- none of its leaves is shown
    pub none_of_all : AllByRecursion (λ q. ShowsLeaf (layers_view ls) q i → ⊥) paths
        → ShowsLeafBelow (layers_view ls) p i → ⊥
    none_of_all none shows =
        let leaf = has_shown_leaf (layers_view ls) i (p ++ shows.rest) shows.leaf.value shows.leaf.shown in
        let (m, at, stood) = below_leaf ls i p shows.rest shows.leaf.value leaf in
        let same : n ≡ m = same_node n m (stands ∙ at) in
        let is_one : In shows.rest (leaf_paths n) =
        has_path shows.rest n shows.leaf.value (ap (node_at shows.rest) same ∙ stood) in
        let whole : In (p ++ shows.rest) paths =
        subst (λ qs. In (p ++ shows.rest) qs) (sym all) (in_map (λ q. p ++ q) shows.rest (leaf_paths n) is_one) in
        all_at (λ q. ShowsLeaf (layers_view ls) q i → ⊥) (p ++ shows.rest) paths none whole shows.leaf

    -- one of them is
    pub one_of_all : (q : Path) → In q paths → ShowsLeaf (layers_view ls) q i → ShowsLeafBelow (layers_view ls) p i
    one_of_all q is_one shows =
        let (rest, is) = behind_path p q (leaf_paths n) (subst (In q) all is_one) in
        record { rest = rest; leaf = subst (λ r. ShowsLeaf (layers_view ls) r i) is shows }

-- the leaves of what is at a path
pub leaf_path : (ls : List (Option (Bor Tree))) (i : ℕ) (b p : Path) (v n : Node) → Some n ≡ node_in ls i b
    → leaf_in ls i (b ++ p) ≡ Some v → In p (leaf_paths n)
leaf_path ls i b p v n stands is =
    let (m, at, leaf) = below_leaf ls i b p v (has_leaf ls i (b ++ p) v is) in
    let same : n ≡ m = same_node n m (stands ∙ at) in
    has_path p n v (ap (node_at p) same ∙ leaf)

pub no_leaf_path : (ls : List (Option (Bor Tree))) (i : ℕ) (b p : Path) (v : Node) → None ≡ node_in ls i b
    → leaf_in ls i (b ++ p) ≡ Some v → ⊥
no_leaf_path ls i b p v none is =
    let (m, at, leaf) = below_leaf ls i b p v (has_leaf ls i (b ++ p) v is) in
    let bad : None ≡ Some m = none ∙ at in cc

-- the leaf that is shown is the one that is there
pub shown_is : (ls : List (Option (Bor Tree))) (i : ℕ) (p : Path) (v : Node) → leaf_in ls i p ≡ Some v
    → ShowsLeaf (layers_view ls) p i → IsShownBy (layers_view ls) p (a_leaf v) i
shown_is ls i p v is shows =
    let w = shows.value in
    let at : leaf_in ls i p ≡ Some w = leaf_is ls i p w (has_shown_leaf (layers_view ls) i p w shows.shown) in
    let same : w ≡ v = same_node w v (sym at ∙ is) in
    subst (λ n. IsShownBy (layers_view ls) p (a_leaf n) i) same shows.shown
