-- Positions that descend.
use Rattle.std.proofs.Common.{◌≡◌, ◌⊎◌, inl, inr, ℕ, zero, suc, ◌<◌, ◌≤◌, List, [], ◌∷◌, ◌++◌, length, Contains, Ordering, Less, nat_cmp, Option, Bor, refl, sym, ap, ◌∙◌, subst, arith}
use Rattle.std.proofs.lemmas.List.{length-append, length-map}
use Rattle.std.specs.Cmp.{nat_cmp_is}
use Rattle.std.proofs.lemmas.List.Elements.{Contains-push, Contains-append_left}
use Rattle.std.specs.List.{AllByRecursion}
use Rattle.std.specs.List.Sorted.{IsStrictlySortedBy}
use Rattle.std.specs.Ordering.{flip_args}
use Rattle.nextest_tree.specs.Node.{Node}
use Rattle.nextest_tree.specs.declared.tree.Tree.{Tree}
use Rattle.nextest_documents.specs.Shown.{Path, Kind, a_leaf}
use Rattle.nextest_documents.specs.Grounds.{ShowsLeafBelow, AreGrounds}
use Rattle.nextest_documents.specs.Layers.{layer_view, layers_view, IsShownBy}
use Rattle.nextest_documents.proofs.Lists.{all_push, all_map}

-- The positions are the grounds among those from one on, and none is lower.
pub record AreGroundsFrom (layers : List Node) (p : Path) (least : ℕ) (positions : List ℕ) : Type 0 where
  pub sound : AllByRecursion (ShowsLeafBelow layers p) positions
  pub complete : (position : ℕ) → least ≤ position → ShowsLeafBelow layers p position → Contains positions position
  pub descend : IsStrictlySortedBy (flip_args nat_cmp) positions
  pub above : AllByRecursion (λ n. least ≤ n) positions

pub sorted_push : {X : Type 0} (cmp : X → X → Ordering) (xs : List X) (y : X) → IsStrictlySortedBy cmp xs
    → AllByRecursion (λ x. cmp x y ≡ Less) xs → IsStrictlySortedBy cmp (xs ++ y ∷ [])
unfolding IsStrictlySortedBy
sorted_push cmp [] y sorted all = (tt, tt)
sorted_push cmp (x ∷ xs) y sorted all =
    (all_push (λ z. cmp x z ≡ Less) xs y sorted.0 all.0, sorted_push cmp xs y sorted.1 all.1)

within : (layers : List Node) (below above : List Node) (x : Node) → layers ≡ below ++ x ∷ above
    → length below < length layers
within layers below above x is = rw (is, length-append below (x ∷ above)) (omega arith)

pub position_within : (layers : List Node) (p : Path) (k : Kind) (i : ℕ) → IsShownBy layers p k i → i < length layers
position_within layers p k i s =
    let shown = s.shown in
    let bound = within layers shown.below shown.above shown.layer shown.splits in
    let same = s.position_is in
    omega (arith, bound, same)

module _ (layers : List Node) (p : Path) where
  pub start : AreGroundsFrom layers p (length layers) []
  start = record {
    sound = tt;
    complete = λ position least shows.
        let bound = position_within layers (p ++ shows.rest) (a_leaf shows.leaf.value) position shows.leaf.shown in
        absurd (omega (arith, bound, least));
    descend = unfold IsStrictlySortedBy in tt;
    above = tt;
  }

  lower : (least : ℕ) (positions : List ℕ) → AllByRecursion (λ n. suc least ≤ n) positions
      → AllByRecursion (λ n. least ≤ n) positions
  lower least positions all = all_map (λ n. suc least ≤ n) (λ n. least ≤ n) positions (λ n h. omega arith) all

  cases_at : (least position : ℕ) → least ≤ position → (suc least ≤ position) ⊎ (least ≡ position)
  cases_at zero zero h = inr refl
  cases_at zero (suc n) h = inl (omega arith)
  cases_at (suc m) zero h = absurd (omega arith)
  cases_at (suc m) (suc n) h = elim (cases_at m n (omega arith)) [ inl e ↦ inl (omega arith) | inr e ↦ inr (ap suc e) ]

  module _ (least : ℕ) (positions : List ℕ) (so_far : AreGroundsFrom layers p (suc least) positions) where
    -- a further position at which leaves are shown
    pub one_lower : ShowsLeafBelow layers p least → AreGroundsFrom layers p least (positions ++ least ∷ [])
    one_lower shows = record {
      sound = all_push (ShowsLeafBelow layers p) positions least so_far.sound shows;
      complete = λ position bound there.
          elim (cases_at least position bound) [
            | inl above ↦ Contains-append_left positions (least ∷ []) position (so_far.complete position above there)
            | inr same ↦ subst (Contains (positions ++ least ∷ [])) same (Contains-push positions least)
          ];
      descend = sorted_push (flip_args nat_cmp) positions least so_far.descend
          (all_map (λ n. suc least ≤ n) (λ n. nat_cmp least n ≡ Less) positions
          (λ n h. let less : least < n = omega arith in sym (nat_cmp_is least n Less less)) so_far.above);
      above = all_push (λ n. least ≤ n) positions least (lower least positions so_far.above) (omega arith);
    }

    -- one at which none is
    pub one_past : (ShowsLeafBelow layers p least → ⊥) → AreGroundsFrom layers p least positions
    one_past none = record {
      sound = so_far.sound;
      complete = λ position bound there.
          elim (cases_at least position bound) [
            | inl above ↦ so_far.complete position above there
            | inr same ↦ absurd (none (subst (ShowsLeafBelow layers p) (sym same) there))
          ];
      descend = so_far.descend;
      above = lower least positions so_far.above;
    }

  pub finish : (positions : List ℕ) → AreGroundsFrom layers p 0 positions → AreGrounds layers p positions
  finish positions all = record {
    sound = all.sound;
    complete = λ position there. all.complete position (omega arith) there;
    descend = all.descend;
  }

-- no positions are looked at
pub begins : (ls : List (Option (Bor Tree))) (p : Path) (n : ℕ) (positions : List ℕ) → n ≡ length ls → positions ≡ []
    → AreGroundsFrom (layers_view ls) p n positions
begins ls p n positions count none =
    let all : length (layers_view ls) ≡ n = length-map ls layer_view ∙ sym count in
    subst (AreGroundsFrom (layers_view ls) p n) (sym none)
    (subst (λ m. AreGroundsFrom (layers_view ls) p m []) all (start (layers_view ls) p))

module _ (layers : List Node) (p : Path) (n m i : ℕ) (positions new : List ℕ)
    (so_far : AreGroundsFrom layers p n positions) (before : n ≡ suc i) (after : m ≡ i) where
  pub goes_on : new ≡ positions ++ i ∷ [] → ShowsLeafBelow layers p i → AreGroundsFrom layers p m new
  goes_on is shows =
      subst (λ k. AreGroundsFrom layers p k new) (sym after) (subst (AreGroundsFrom layers p i) (sym is)
      (one_lower layers p i positions (subst (λ k. AreGroundsFrom layers p k positions) before so_far) shows))

  pub passes : new ≡ positions → (ShowsLeafBelow layers p i → ⊥) → AreGroundsFrom layers p m new
  passes is none =
      subst (λ k. AreGroundsFrom layers p k new) (sym after) (subst (AreGroundsFrom layers p i) (sym is)
      (one_past layers p i positions (subst (λ k. AreGroundsFrom layers p k positions) before so_far) none))
