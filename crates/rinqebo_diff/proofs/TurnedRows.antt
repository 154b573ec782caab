-- Rows that are alike change alike, from both sides.
use Rattle.std.proofs.Common.{◌≡◌, ◌∙◌, ◌⊎◌, inl, inr, ℕ, ◌+◌, Bool, true, false, cond, List, [], ◌∷◌, filter, map, refl, sym}
use Rattle.std.specs.List.{AllZip, enumerate_from, zip}
use Rattle.std.proofs.lemmas.Bool.Decides.{Decides-like, same_from_decides}
use Rattle.rinqebo_report.specs.declared.origin.Source.{Source}
use Rattle.rinqebo_changes.specs.Changes.{change_of, is_change}
use Rattle.rinqebo_changes.specs.Laws.{Changes}
use Rattle.rinqebo_changes.specs.declared.change.RowChange.{RowChange}
use Rattle.rinqebo_changes.specs.declared.change.SideRow.{SideRow}
use Rattle.rinqebo_changes.proofs.LikeSources.{change_decides}
use Rattle.rinqebo_diff.specs.TurnedSides.{ComeAlike, SaySame, IsTurnedAt}

-- the rows that change, with places from n on
abbrev pub changed_from : (SideRow → SideRow → Bool) → ℕ → List SideRow → List SideRow → List RowChange
changed_from test n from to = filter (λ c. test c.from c.to) (map change_of (enumerate_from n (zip from to)))

-- what is kept of two lists, if both first elements are, or neither
pub both_kept : {A B : Type 0} (R : A → B → Type 0) (p q : Bool) (x : A) (y : B) (xs : List A) (ys : List B) → q ≡ p
    → R x y → AllZip R xs ys → AllZip R (cond p (x ∷ xs) xs) (cond q (y ∷ ys) ys)
both_kept R true true x y xs ys same is all = (is, all)
both_kept R true false x y xs ys same is all = absurd (cc)
both_kept R false true x y xs ys same is all = absurd (cc)
both_kept R false false x y xs ys same is all = all

module _ (AreLefts AreRights : SideRow → SideRow → Type 0) (test other : SideRow → SideRow → Bool)
    (alike : (l r m k : SideRow) → AreLefts l k → AreRights r m → other m k ≡ test l r) where
  -- what changes between rows is what changes the other way between rows that are alike
  pub turned_from : (n : ℕ) (ls rs ms ks : List SideRow) → AllZip AreLefts ls ks → AllZip AreRights rs ms
      → AllZip (IsTurnedAt AreLefts AreRights) (changed_from test n ls rs) (changed_from other n ms ks)
  turned_from n [] [] [] [] one two = tt
  turned_from n [] (r ∷ rs) (m ∷ ms) [] one two = tt
  turned_from n (l ∷ ls) [] [] (k ∷ ks) one two = tt
  turned_from n (l ∷ ls) (r ∷ rs) (m ∷ ms) (k ∷ ks) one two =
      both_kept (IsTurnedAt AreLefts AreRights) (test l r) (other m k) (change_of (n, (l, r))) (change_of (n, (m, k)))
      (changed_from test (n + 1) ls rs) (changed_from other (n + 1) ms ks) (alike l r m k one.0 two.0)
      (record { place = refl; from = one.0; to = two.0 }) (turned_from (n + 1) ls rs ms ks one.1 two.1)
  turned_from n [] rs ms (k ∷ ks) one two = absurd one
  turned_from n (l ∷ ls) rs ms [] one two = absurd one
  turned_from n ls [] (m ∷ ms) ks one two = absurd two
  turned_from n ls (r ∷ rs) [] ks one two = absurd two

either_along : {A B C D W : Type 0} → (C → A) → (D → B) → (A → ⊥) ⊎ (W × (B → ⊥)) → (C → ⊥) ⊎ (W × (D → ⊥))
either_along f g (inl n) = inl (λ c. n (f c))
either_along f g (inr n) = inr (n.0, λ d. n.1 (g d))

module _ (from to files others : List Source) (w : Bool) where
  -- a setting changes from both sides, or from neither
  turned_by : (l r m k : SideRow) → (Changes from to w l r → Changes files others w m k)
      → (Changes files others w m k → Changes from to w l r) → is_change files others w m k ≡ is_change from to w l r
  turned_by l r m k into back =
      same_from_decides (is_change files others w m k) (is_change from to w l r) (change_decides files others w m k)
      (Decides-like (is_change from to w l r) into back (change_decides from to w l r))

  -- so it is of one that has the same values and comes from the same
  pub change_alike : (l r m k : SideRow) → ComeAlike from others l k → ComeAlike to files r m
      → is_change files others w m k ≡ is_change from to w l r
  change_alike l r m k one two =
      turned_by l r m k
      (either_along (λ e. one.said.value ∙ sym e ∙ sym two.said.value) (λ e. one.source ∙ sym e ∙ sym two.source))
      (either_along (λ e. sym two.said.value ∙ sym e ∙ one.said.value) (λ e. sym two.source ∙ sym e ∙ one.source))

either_without : {A B C D : Type 0} → (C → A) → (A → ⊥) ⊎ ((false ≡ true) × (B → ⊥)) → (C → ⊥) ⊎ ((false ≡ true) × (D → ⊥))
either_without f (inl n) = inl (λ c. n (f c))
either_without f (inr n) = absurd (let no : false ≡ true = n.0 in cc)

-- where origins do not count, it changes from both sides, or from neither
pub change_turned : (from to files others : List Source) (l r m k : SideRow) → SaySame l k → SaySame r m
    → is_change files others false m k ≡ is_change from to false l r
change_turned from to files others l r m k one two =
    turned_by from to files others false l r m k
    (either_without (λ e. one.value ∙ sym e ∙ sym two.value))
    (either_without (λ e. sym two.value ∙ sym e ∙ one.value))
