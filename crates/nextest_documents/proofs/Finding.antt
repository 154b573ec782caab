-- What a region of a layer has at a path.
use Rattle.std.proofs.Common.{◌≡◌, ◌↔◌, ℕ, ◌<◌, ◌+◌, List, [], ◌∷◌, ◌++◌, length, take, get_or, map, Bool, true, false, IsTrue, Option, Some, None, Bor, refl, sym, ap, ◌∙◌, subst, append_assoc}
use Rattle.std.proofs.lemmas.Bool.{true≢false}
use Rattle.std.specs.List.{AllZip}
use Rattle.nextest_tree.specs.Node.{Node}
use Rattle.nextest_tree.specs.declared.tree.Tree.{Tree}
use Rattle.nextest_documents.specs.Shown.{Path}
use Rattle.nextest_documents.specs.Along.{leaf_in}
use Rattle.nextest_documents.specs.Entries.{Leaf, HasLeaf, Counts}
use Rattle.nextest_documents.specs.Layers.{layers_view}
use Rattle.nextest_documents.specs.Sections.{Region, base_path}
use Rattle.nextest_documents.specs.Writers.{writer_view, IsToldAndAsked, IsAt, IsEntry, somes, AddsFound}
use Rattle.nextest_documents.specs.declared.entries.Writer.{Writer}
use Rattle.nextest_documents.proofs.Lists.{taken}
use Rattle.nextest_documents.proofs.Showing.{leaf_is, has_leaf}

same_node : (n m : Node) → Some n ≡ Some m → n ≡ m
same_node n m e = cc

by_mark : (b : Bool) → (b ≡ true → ⊥) → (b ≡ false → ⊥) → ⊥
by_mark true f g = f refl
by_mark false f g = g refl

same_mark : (b c : Bool) → (b ≡ false → c ≡ false) → (c ≡ false → b ≡ false) → b ≡ c
same_mark true true f g = refl
same_mark true false f g = g refl
same_mark false true f g = sym (f refl)
same_mark false false f g = refl

same_leaf : (a b : Leaf) → a.path ≡ b.path → a.value ≡ b.value → a.region ≡ b.region → a.layer ≡ b.layer
    → a.hidden ≡ b.hidden → a ≡ b
same_leaf a b p v r l h = λ i. record { path = p i; value = v i; region = r i; layer = l i; hidden = h i }

module _ (ls : List (Option (Bor Tree))) (p : Path) (w : Region × ℕ) where
  -- the leaf that is there
  leaf_at : (leaf : Leaf) → IsAt p w leaf
      → HasLeaf (layers_view ls) leaf.layer (base_path leaf.region ++ leaf.path) leaf.value
      → leaf_in ls w.1 (base_path w.0 ++ p) ≡ Some leaf.value
  leaf_at leaf at has =
      ap (λ i. leaf_in ls i (base_path w.0 ++ p)) (sym at.layer)
      ∙ ap (λ r. leaf_in ls leaf.layer (base_path r ++ p)) (sym at.region)
      ∙ ap (λ q. leaf_in ls leaf.layer (base_path leaf.region ++ q)) (sym at.path)
      ∙ leaf_is ls leaf.layer (base_path leaf.region ++ leaf.path) leaf.value (has.node, has.layer, has.leaf)

  counts_at : (leaf : Leaf) → IsAt p w leaf
      → Counts (layers_view ls) leaf.region leaf.path leaf.layer leaf.value
      → Counts (layers_view ls) w.0 p w.1 leaf.value
  counts_at leaf at counts =
      subst (λ i. Counts (layers_view ls) w.0 p i leaf.value) at.layer
      (subst (λ r. Counts (layers_view ls) r p leaf.layer leaf.value) at.region
      (subst (λ q. Counts (layers_view ls) leaf.region q leaf.layer leaf.value) at.path counts))

  back_at : (leaf : Leaf) → IsAt p w leaf → Counts (layers_view ls) w.0 p w.1 leaf.value
      → Counts (layers_view ls) leaf.region leaf.path leaf.layer leaf.value
  back_at leaf at counts =
      subst (λ i. Counts (layers_view ls) leaf.region leaf.path i leaf.value) (sym at.layer)
      (subst (λ r. Counts (layers_view ls) r leaf.path w.1 leaf.value) (sym at.region)
      (subst (λ q. Counts (layers_view ls) w.0 q w.1 leaf.value) (sym at.path) counts))

  module _ (keys : List (List ℕ)) (with_hidden : Bool) where
    -- no leaf is reported or asked for there
    pub not_wanted : (b : Bool) → (IsTrue b ↔ IsToldAndAsked w.0 keys p) → b ≡ false → (leaf : Leaf)
        → IsEntry (layers_view ls) keys with_hidden p w leaf → ⊥
    not_wanted b both is leaf entry =
        let at = entry.at in
        let own : IsToldAndAsked leaf.region keys leaf.path =
        record { told = entry.leaf_is.told; asked = entry.leaf_is.asked } in
        let there = subst (λ r. IsToldAndAsked r keys p) at.region
        (subst (λ q. IsToldAndAsked leaf.region keys q) at.path own) in
        true≢false (sym (both.1 there) ∙ is)

    -- no leaf is there
    pub no_entry : None ≡ leaf_in ls w.1 (base_path w.0 ++ p) → (leaf : Leaf)
        → IsEntry (layers_view ls) keys with_hidden p w leaf → ⊥
    no_entry none leaf entry =
        let bad : None ≡ Some leaf.value = none ∙ leaf_at leaf entry.at entry.leaf_is.written in cc

    module _ (hidden : Bool) (both : (v : Node) → leaf_in ls w.1 (base_path w.0 ++ p) ≡ Some v
        → (hidden ≡ false) ↔ Counts (layers_view ls) w.0 p w.1 v) where
      -- one that does not count is not wanted
      pub not_told : hidden ≡ true → with_hidden ≡ false → (leaf : Leaf)
          → IsEntry (layers_view ls) keys with_hidden p w leaf → ⊥
      not_told is unwanted leaf entry =
          by_mark leaf.hidden
          (λ h. true≢false (sym (entry.wanted h) ∙ unwanted))
          (λ h. let counts = counts_at leaf entry.at (entry.leaf_is.shown.0 h) in
          let shown = (both leaf.value (leaf_at leaf entry.at entry.leaf_is.written)).1 counts in
          true≢false (sym is ∙ shown))

      -- one that is wanted
      pub entry_is : (v : Node) → Some v ≡ leaf_in ls w.1 (base_path w.0 ++ p) → IsToldAndAsked w.0 keys p
          → (hidden ≡ true → with_hidden ≡ true) → (leaf : Leaf)
          → leaf ≡ record { path = p; value = v; region = w.0; layer = w.1; hidden = hidden }
          → IsEntry (layers_view ls) keys with_hidden p w leaf
      entry_is v stands asked wanted leaf is =
          let (n, at, there) = has_leaf ls w.1 (base_path w.0 ++ p) v (sym stands) in
          subst (IsEntry (layers_view ls) keys with_hidden p w) (sym is) (record {
            at = record { path = refl; region = refl; layer = refl };
            leaf_is = record {
              told = asked.told;
              asked = asked.asked;
              written = record { node = n; layer = at; leaf = there };
              shown = both v (sym stands);
            };
            wanted = wanted;
          })

  -- two entries at one place are one
  pub one_entry : (keys : List (List ℕ)) (with_hidden : Bool) (a b : Leaf)
      → IsEntry (layers_view ls) keys with_hidden p w a → IsEntry (layers_view ls) keys with_hidden p w b → a ≡ b
  one_entry keys with_hidden a b x y =
      let value : a.value ≡ b.value = same_node a.value b.value
      (sym (leaf_at a x.at x.leaf_is.written) ∙ leaf_at b y.at y.leaf_is.written) in
      let hidden : a.hidden ≡ b.hidden = same_mark a.hidden b.hidden
      (λ h. y.leaf_is.shown.1 (back_at b y.at
      (subst (Counts (layers_view ls) w.0 p w.1) value (counts_at a x.at (x.leaf_is.shown.0 h)))))
      (λ h. x.leaf_is.shown.1 (back_at a x.at
      (subst (Counts (layers_view ls) w.0 p w.1) (sym value) (counts_at b y.at (y.leaf_is.shown.0 h))))) in
      same_leaf a b (x.at.path ∙ sym y.at.path) value (x.at.region ∙ sym y.at.region)
      (x.at.layer ∙ sym y.at.layer) hidden

zip_push : {A B : Type 0} (R : A → B → Type 0) (xs : List A) (ys : List B) (x : A) (y : B) → AllZip R xs ys → R x y
    → AllZip R (xs ++ x ∷ []) (ys ++ y ∷ [])
zip_push R [] [] x y all one = (one, tt)
zip_push R [] (z ∷ ys) x y all one = absurd all
zip_push R (w ∷ xs) [] x y all one = absurd all
zip_push R (w ∷ xs) (z ∷ ys) x y all one = (all.0, zip_push R xs ys x y all.1 one)

somes-append : (xs ys : List (Option Leaf)) → somes (xs ++ ys) ≡ somes xs ++ somes ys
somes-append [] ys = refl
somes-append (None ∷ xs) ys = somes-append xs ys
somes-append (Some x ∷ xs) ys = ap (λ l. x ∷ l) (somes-append xs ys)

-- what is found for one writer more
pub found_more : (one : Region × ℕ → Option Leaf → Type 0) (ws : List (Region × ℕ)) (w : Region × ℕ)
    (old so_far new : List Leaf) (o : Option Leaf) → AddsFound one ws old so_far → one w o
    → new ≡ so_far ++ somes (o ∷ []) → AddsFound one (ws ++ w ∷ []) old new
found_more one ws w old so_far new o adds is added = record {
  found = adds.found ++ o ∷ [];
  each = zip_push one ws adds.found w o adds.each is;
  added = added ∙ ap (λ l. l ++ somes (o ∷ [])) adds.added ∙ append_assoc old (somes adds.found) (somes (o ∷ []))
      ∙ ap (λ l. old ++ l) (sym (somes-append adds.found (o ∷ [])));
}

pub found_taken : (one : Region × ℕ → Option Leaf → Type 0) (ws : List Writer) (i : ℕ) (d : Writer)
    (old so_far new : List Leaf) (o : Option Leaf) → i < length ws
    → AddsFound one (take i (map writer_view ws)) old so_far
    → one (writer_view (get_or ws i d)) o → new ≡ so_far ++ somes (o ∷ [])
    → AddsFound one (take (i + 1) (map writer_view ws)) old new
found_taken one ws i d old so_far new o within adds is added =
    subst (λ l. AddsFound one l old new) (sym (taken writer_view ws i d within))
    (found_more one (take i (map writer_view ws)) (writer_view (get_or ws i d)) old so_far new o adds is added)
