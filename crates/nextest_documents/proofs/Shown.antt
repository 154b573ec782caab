-- The nodes of what was laid over.
use Rattle.std.proofs.Common.{◌≡◌, ◌⊎◌, inl, inr, ℕ, List, [], ◌∷◌, ◌++◌, Option, Some, None, Result, Ok, Err, IfOk, subst, sym, ap, ◌∙◌, refl}
use Rattle.std.specs.List.{AllByRecursion}
use Rattle.std.specs.Option.{option_and_then}
use Rattle.nextest_tree.specs.Node.{Node, table, Entries, get}
use Rattle.std.specs.declared.alloc.AllocError.{AllocError}
use Rattle.nextest_tree.specs.View.{tree_view}
use Rattle.nextest_tree.specs.declared.tree.Tree.{Tree}
use Rattle.nextest_documents.specs.Merge.{over, merged}
use Rattle.nextest_documents.specs.Shown.{Path, Kind, a_table, a_leaf, node_at, HasLeafAlong, Hides, by_leaf, by_table, IsShown, HasExactly}
use Rattle.nextest_documents.proofs.Laying.{laid_over, get-entries_over}

-- a node of the two: of the higher, or of the lower and not hidden
abbrev pub OfTwo : Node → Node → Path → Kind → Type 0
OfTwo above below p k = (node_at p above ≡ Some k) ⊎ ((node_at p below ≡ Some k) × (Hides above p k → ⊥))

-- a leaf along a path through a table is along the rest of it, in the entry
down_at : (q : List ℕ) (ps : Path) (hs : Entries) (a : Node) (rest : Path) (v : Node) → get q hs ≡ Some a
    → (front : Path) → q ∷ ps ≡ front ++ rest → node_at front (table hs) ≡ Some (a_leaf v) → HasLeafAlong a ps
down_at q ps hs a rest v at [] e h = cc
down_at q ps hs a rest v at (f ∷ fs) e h =
    let same : q ≡ f = cc in
    let tails : ps ≡ fs ++ rest = cc in
    let there : get f hs ≡ Some a = rw (← same) at in
    record { front = fs; rest = rest; value = v; splits = tails; leaf = rw there at h }

down : (q : List ℕ) (ps : Path) (hs : Entries) (a : Node) (k : Kind) → get q hs ≡ Some a
    → Hides (table hs) (q ∷ ps) k → Hides a ps k
down q ps hs a k at (by_leaf l) = by_leaf (down_at q ps hs a l.rest l.value at l.front l.splits l.leaf)
down q ps hs a (a_leaf v) at (by_table h) = by_table (rw at at h)

-- nothing along a path that leaves the table hides
none_at : (q : List ℕ) (ps : Path) (hs : Entries) (rest : Path) (v : Node) → get q hs ≡ None
    → (front : Path) → q ∷ ps ≡ front ++ rest → node_at front (table hs) ≡ Some (a_leaf v) → ⊥
none_at q ps hs rest v at [] e h = cc
none_at q ps hs rest v at (f ∷ fs) e h =
    let same : q ≡ f = cc in
    let there : get f hs ≡ None = rw (← same) at in
    let bad : None ≡ Some (a_leaf v) = rw there at h in cc

none : (q : List ℕ) (ps : Path) (hs : Entries) (k : Kind) → get q hs ≡ None → Hides (table hs) (q ∷ ps) k → ⊥
none q ps hs k at (by_leaf l) = none_at q ps hs l.rest l.value at l.front l.splits l.leaf
none q ps hs (a_leaf v) at (by_table h) = let bad : None ≡ Some a_table = rw at at h in cc

-- a node of what was laid over, by the entry that is there
abbrev MembersOfTwo : List ℕ → Path → Entries → Entries → Kind → Type 0
MembersOfTwo q ps hs ls k = OfTwo (table hs) (table ls) (q ∷ ps) k

of_member : (q : List ℕ) (ps : Path) (hs ls : Entries) (k : Kind) (x y : Option Node) → get q hs ≡ x → get q ls ≡ y
    → ((a b : Node) → node_at ps (over a b) ≡ Some k → OfTwo a b ps k)
    → option_and_then (node_at ps) (laid_over x y) ≡ Some k → MembersOfTwo q ps hs ls k
of_member q ps hs ls k None y ea eb ih h = inr (rw eb h, none q ps hs k ea)
of_member q ps hs ls k (Some a) None ea eb ih h = inl (rw ea h)
of_member q ps hs ls k (Some a) (Some b) ea eb ih h =
    elim (ih a b h) [
      | inl e ↦ inl (rw ea e)
      | inr e ↦ inr (rw eb e.0, λ hides. e.1 (down q ps hs a k ea hides))
    ]

-- the root of what was laid over is the higher one's
root : (above below : Node) → node_at [] (over above below) ≡ node_at [] above
root (table hs) (table ls) = refl
root above below = refl

-- a node of what was laid over is a node of the two
pub of_two : (p : Path) (above below : Node) (k : Kind) → node_at p (over above below) ≡ Some k → OfTwo above below p k
of_two [] above below k h = inl (sym (root above below) ∙ h)
of_two (q ∷ ps) (table hs) (table ls) k h =
    of_member q ps hs ls k (get q hs) (get q ls) refl refl (λ a b e. of_two ps a b k e)
    (rw (get-entries_over q hs ls) at h)
of_two p above below k h = inl h

-- a leaf at the head of any path
leaf_here : (d : Node) (p : Path) → node_at [] d ≡ Some (a_leaf d) → HasLeafAlong d p
leaf_here d p h = record { front = []; rest = p; value = d; splits = refl; leaf = h }

up_at : (q : List ℕ) (ps : Path) (hs : Entries) (a : Node) → get q hs ≡ Some a → HasLeafAlong a ps
    → HasLeafAlong (table hs) (q ∷ ps)
up_at q ps hs a at l = record
    { front = q ∷ l.front; rest = l.rest; value = l.value; splits = ap (λ t. q ∷ t) l.splits; leaf = rw at l.leaf }

up : (q : List ℕ) (ps : Path) (hs : Entries) (a : Node) (k : Kind) → get q hs ≡ Some a → Hides a ps k
    → Hides (table hs) (q ∷ ps) k
up q ps hs a k at (by_leaf l) = by_leaf (up_at q ps hs a at l)
up q ps hs a (a_leaf v) at (by_table h) = by_table (rw at h)

from_member : (q : List ℕ) (ps : Path) (hs ls : Entries) (k : Kind) (x y : Option Node) → get q hs ≡ x → get q ls ≡ y
    → ((a b : Node) → OfTwo a b ps k → node_at ps (over a b) ≡ Some k)
    → MembersOfTwo q ps hs ls k → option_and_then (node_at ps) (laid_over x y) ≡ Some k
from_member q ps hs ls k None y ea eb ih (inl e) = let bad : None ≡ Some k = rw ea at e in cc
from_member q ps hs ls k None y ea eb ih (inr e) = rw eb at e.0
from_member q ps hs ls k (Some a) None ea eb ih (inl e) = rw ea at e
from_member q ps hs ls k (Some a) None ea eb ih (inr e) = let bad : None ≡ Some k = rw eb at e.0 in cc
from_member q ps hs ls k (Some a) (Some b) ea eb ih (inl e) = ih a b (inl (rw ea at e))
from_member q ps hs ls k (Some a) (Some b) ea eb ih (inr e) =
    ih a b (inr (rw eb at e.0, λ hides. e.1 (up q ps hs a k ea hides)))

-- a table hides a leaf of its own path
leaf_under : (above : Node) (v : Node) (k : Kind) → node_at [] above ≡ Some a_table → Some (a_leaf v) ≡ Some k
    → Hides above [] k
leaf_under above v a_table h e = cc
leaf_under above v (a_leaf w) h e = by_table h

-- the way back
pub from_two : (p : Path) (above below : Node) (k : Kind) → OfTwo above below p k
    → node_at p (over above below) ≡ Some k
from_two [] above below k (inl e) = root above below ∙ e
from_two (q ∷ ps) (table hs) (table ls) k (inl e) =
    rw (get-entries_over q hs ls)
    (from_member q ps hs ls k (get q hs) (get q ls) refl refl (λ a b e. from_two ps a b k e) (inl e))
from_two p above below k (inl e) = e
from_two (q ∷ ps) (table hs) (table ls) k (inr e) =
    rw (get-entries_over q hs ls)
    (from_member q ps hs ls k (get q hs) (get q ls) refl refl (λ a b e. from_two ps a b k e) (inr e))
from_two [] (table hs) (table ls) k (inr e) = e.0
from_two [] (table hs) below k (inr e) = absurd (e.1 (leaf_under (table hs) below k refl e.0))
from_two (q ∷ ps) (table hs) below k (inr e) = let bad : None ≡ Some k = e.0 in cc
from_two p above below k (inr e) = absurd (e.1 (by_leaf (leaf_here above p refl)))

no_layer : (layer : Node) (above below : List Node) → [] ≡ below ++ layer ∷ above → ⊥
no_layer layer above [] e = cc
no_layer layer above (b ∷ below) e = cc

-- the first layer, or one of the others
uncons_at : (x : Node) (xs : List Node) (p : Path) (k : Kind) (layer : Node) (above : List Node)
    → node_at p layer ≡ Some k → AllByRecursion (λ a. Hides a p k → ⊥) above
    → (below : List Node) → x ∷ xs ≡ below ++ layer ∷ above
    → ((node_at p x ≡ Some k) × AllByRecursion (λ a. Hides a p k → ⊥) xs) ⊎ IsShown xs p k
uncons_at x xs p k layer above there seen [] e =
    let first : x ≡ layer = cc in
    let others : xs ≡ above = cc in
    inl (rw first there, rw others seen)
uncons_at x xs p k layer above there seen (b ∷ below) e =
    inr (record { below = below; layer = layer; above = above; splits = cc; there = there; unhidden = seen })

uncons : (x : Node) (xs : List Node) (p : Path) (k : Kind) → IsShown (x ∷ xs) p k
    → ((node_at p x ≡ Some k) × AllByRecursion (λ a. Hides a p k → ⊥) xs) ⊎ IsShown xs p k
uncons x xs p k s = uncons_at x xs p k s.layer s.above s.there s.unhidden s.below s.splits

cons : (x : Node) (xs : List Node) (p : Path) (k : Kind)
    → ((node_at p x ≡ Some k) × AllByRecursion (λ a. Hides a p k → ⊥) xs) ⊎ IsShown xs p k → IsShown (x ∷ xs) p k
cons x xs p k (inl e) = record { below = []; layer = x; above = xs; splits = refl; there = e.0; unhidden = e.1 }
cons x xs p k (inr s) = record {
  below = x ∷ s.below;
  layer = s.layer;
  above = s.above;
  splits = ap (λ t. x ∷ t) s.splits;
  there =
      s.there;
  unhidden = s.unhidden;
}

shown_to : (ds : List Node) (base : Node) (p : Path) (k : Kind) → node_at p (merged base ds) ≡ Some k
    → ((node_at p base ≡ Some k) × AllByRecursion (λ a. Hides a p k → ⊥) ds) ⊎ IsShown ds p k
shown_to [] base p k h = inl (h, tt)
shown_to (d ∷ ds) base p k h =
    elim (shown_to ds (over d base) p k h) [
      | inl e ↦
          elim (of_two p d base k e.0) [
            | inl here ↦ inr (cons d ds p k (inl (here, e.1)))
            | inr lower ↦ inl (lower.0, (lower.1, e.1))
          ]
      | inr s ↦ inr (cons d ds p k (inr s))
    ]

shown_from : (ds : List Node) (base : Node) (p : Path) (k : Kind)
    → ((node_at p base ≡ Some k) × AllByRecursion (λ a. Hides a p k → ⊥) ds) ⊎ IsShown ds p k
    → node_at p (merged base ds) ≡ Some k
shown_from [] base p k (inl e) = e.0
shown_from [] base p k (inr s) = absurd (no_layer s.layer s.above s.below s.splits)
shown_from (d ∷ ds) base p k (inl e) =
    shown_from ds (over d base) p k (inl (from_two p d base k (inr (e.0, e.1.0)), e.1.1))
shown_from (d ∷ ds) base p k (inr s) =
    elim (uncons d ds p k s) [
      | inl e ↦ shown_from ds (over d base) p k (inl (from_two p d base k (inl e.0), e.1))
      | inr s ↦ shown_from ds (over d base) p k (inr s)
    ]

-- the merged tree has exactly the nodes that nothing hides
pub has_shown : (base : Node) (ds : List Node) → HasExactly (merged base ds) (IsShown (base ∷ ds))
has_shown base ds p k = (
  λ h. cons base ds p k (shown_to ds base p k h),
  λ s. shown_from ds base p k
      (uncons base ds p k s),
)

-- so has what is laid over one layer
pub laid_nodes : (r : Result Tree AllocError) (above below : Node) → IfOk r (λ tree. tree_view tree ≡ over above below)
    → IfOk r (λ tree. HasExactly (tree_view tree) (IsShown (below ∷ above ∷ [])))
laid_nodes (Ok tree) above below is =
    let P : Node → Type 0 = λ n. HasExactly n (IsShown (below ∷ above ∷ [])) in
    subst P (sym is) (has_shown below (above ∷ []))
laid_nodes (Err e) above below is = is
