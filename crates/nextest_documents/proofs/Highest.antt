-- The highest layer that shows something at a path.
use Rattle.std.proofs.Common.{◌≡◌, ℕ, suc, ◌<◌, List, [], ◌∷◌, ◌++◌, length, get_or, take, drop, Option, Some, None, MatchOption, is_some, Bor, refl, sym, ap, ◌∙◌, subst, arith, false}
use Rattle.std.proofs.Math.Seq.{drop-cons}
use Rattle.std.proofs.lemmas.List.{length-map, length-take-le, map-append, take-append-drop}
use Rattle.std.specs.List.{AllByRecursion}
use Rattle.nextest_tree.specs.Node.{Node}
use Rattle.nextest_tree.specs.declared.tree.Tree.{Tree}
use Rattle.nextest_documents.specs.Merge.{merged}
use Rattle.nextest_documents.specs.Shown.{Path, Kind, node_at, Hides, IsShown}
use Rattle.nextest_documents.proofs.Shown.{has_shown}
use Rattle.nextest_documents.specs.Along.{lost, blocked, whole, way_along}
use Rattle.nextest_documents.specs.Layers.{layer_view, layers_view, Stands, IsHighest}
use Rattle.nextest_documents.proofs.Lists.{all_map, middle, not_behind, no_split}
use Rattle.nextest_documents.proofs.Ways.{lost_none, lost_hides, blocked_none, blocked_hides, whole_some}

-- the way along a path is lost in a layer
abbrev pub LosesWay : Path → Option (Bor Tree) → Type 0
LosesWay p layer = way_along p (layer_view layer) ≡ lost

abbrev IsLost : Path → Node → Type 0
IsLost p n = way_along p n ≡ lost

no_node : (p : Path) (n : Node) (k : Kind) → node_at p n ≡ Some k → IsLost p n → ⊥
no_node p n k at is = let bad : None ≡ Some k = sym (lost_none p n is) ∙ at in cc

-- a layer to which the way leads, under others in which it is lost
pub whole_under : (p : Path) (below above : List Node) (x : Node) → AllByRecursion (IsLost p) above
    → way_along p x ≡ whole → IsHighest (below ++ x ∷ above) p (length below)
whole_under p below above x all is =
    let (k, at) = whole_some p x is in
    record {
      kind = k;
      shown = record {
        shown = record {
          below = below;
          layer = x;
          above = above;
          splits = refl;
          there = at;
          unhidden = all_map (IsLost p) (λ n. Hides n p k → ⊥) above (λ n e. lost_hides p n k e) all;
        };
        position_is = refl;
      };
      highest = λ other position s.
          let shown = s.shown in
          let bound = not_behind (IsLost p) x shown.layer above shown.above all
          (no_node p shown.layer other shown.there)
          below shown.below shown.splits in
          let same = s.position_is in
          omega (arith, bound, same);
    }

-- one in which the way is blocked, under others in which it is lost
pub blocked_under : (p : Path) (below above : List Node) (x : Node) → AllByRecursion (IsLost p) above
    → way_along p x ≡ blocked → Stands (below ++ x ∷ above) p → ⊥
blocked_under p below above x all is (k, shown) =
    no_split (IsLost p) (λ n. Hides n p k → ⊥) x shown.layer above shown.above all shown.unhidden
    (no_node p shown.layer k shown.there)
    (λ same. let bad : None ≡ Some k = sym (blocked_none p x is) ∙ ap (node_at p) same ∙ shown.there in cc)
    (λ unhidden. unhidden (blocked_hides p x k is)) below shown.below shown.splits

-- layers in each of which the way is lost
pub lost_in_all : (p : Path) (layers : List Node) → AllByRecursion (IsLost p) layers → Stands layers p → ⊥
lost_in_all p layers all (k, shown) =
    no_node p shown.layer k shown.there
    (middle (IsLost p) shown.layer shown.below shown.above (subst (AllByRecursion (IsLost p)) shown.splits all))

all_lost : (p : Path) (ls : List (Option (Bor Tree))) → AllByRecursion (LosesWay p) ls
    → AllByRecursion (IsLost p) (layers_view ls)
all_lost p [] all = tt
all_lost p (l ∷ ls) all = (all.0, all_lost p ls all.1)

-- layers from one position on
pub parted : (ls : List (Option (Bor Tree))) (i : ℕ) (x : Option (Bor Tree)) → i < length ls → x ≡ get_or ls i x
    → layers_view ls ≡ layers_view (take i ls) ++ layer_view x ∷ layers_view (drop (suc i) ls)
parted ls i x within is =
    ap layers_view (sym (take-append-drop i ls)) ∙ map-append layer_view (take i ls) (drop i ls)
    ∙ ap (λ more. layers_view (take i ls) ++ layers_view more) (drop-cons ls i x within)
    ∙ ap (λ y. layers_view (take i ls) ++ layer_view y ∷ layers_view (drop (suc i) ls)) (sym is)

pub position_is : (ls : List (Option (Bor Tree))) (i : ℕ) → i < length ls → length (layers_view (take i ls)) ≡ i
position_is ls i within = length-map (take i ls) layer_view ∙ length-take-le i ls (omega arith)

module _ (p : Path) (ls : List (Option (Bor Tree))) where
  module _ (i : ℕ) (x : Option (Bor Tree)) (within : i < length ls) (is : x ≡ get_or ls i x)
      (all : AllByRecursion (LosesWay p) (drop (suc i) ls)) where
    pub found : way_along p (layer_view x) ≡ whole → IsHighest (layers_view ls) p i
    found way =
        let there = whole_under p (layers_view (take i ls)) _ (layer_view x) (all_lost p _ all) way in
        subst (λ n. IsHighest (layers_view ls) p n) (position_is ls i within)
        (subst (λ l. IsHighest l p (length (layers_view (take i ls)))) (sym (parted ls i x within is)) there)

    pub hidden : way_along p (layer_view x) ≡ blocked → Stands (layers_view ls) p → ⊥
    hidden way stands =
        blocked_under p (layers_view (take i ls)) _ (layer_view x) (all_lost p _ all) way
        (subst (λ l. Stands l p) (parted ls i x within is) stands)

    pub one_more : LosesWay p x → AllByRecursion (LosesWay p) (drop i ls)
    one_more way =
        subst (AllByRecursion (LosesWay p)) (sym (drop-cons ls i x within ∙ ap (λ y. y ∷ drop (suc i) ls) (sym is)))
        (way, all)

  pub nowhere : AllByRecursion (LosesWay p) ls → Stands (layers_view ls) p → ⊥
  nowhere all = lost_in_all p (layers_view ls) (all_lost p ls all)

without : (o : Option Kind) → ((k : Kind) → o ≡ Some k → ⊥) → false ≡ is_some o
without None none = refl
without (Some k) none = absurd (none k refl)

-- the merged tree has something at the path where some layer shows it
pub merged_is : (p : Path) (layers : List Node) (r : Option ℕ)
    → MatchOption r (Stands layers p → ⊥) (IsHighest layers p) → (lowest : Node) (higher : List Node)
    → layers ≡ lowest ∷ higher → is_some r ≡ is_some (node_at p (merged lowest higher))
merged_is p layers None none lowest higher is =
    without (node_at p (merged lowest higher))
    (λ k at. none (k, subst (λ l. IsShown l p k) (sym is) ((has_shown lowest higher p k).0 at)))
merged_is p layers (Some i) found lowest higher is =
    let shown : IsShown layers p found.kind = found.shown.shown in
    ap is_some (sym ((has_shown lowest higher p found.kind).1 (subst (λ l. IsShown l p found.kind) is shown)))
