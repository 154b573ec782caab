-- The leaves that are found are the entries.
use Rattle.std.proofs.Common.{◌≡◌, ◌⊎◌, inl, inr, ℕ, zero, suc, ◌<◌, ◌≤◌, List, [], ◌∷◌, ◌++◌, length, flat_map, Contains, Bool, Option, Some, None, Ordering, Less, Equal, nat_cmp, Bor, refl, sym, ap, ◌∙◌, subst, arith}
use Rattle.std.proofs.lemmas.Cmp.{nat_cmp_total}
use Rattle.std.proofs.lemmas.List.{length-append}
use Rattle.std.specs.Cmp.{nat_cmp_is, tied_itself}
use Rattle.std.specs.List.{AllByRecursion, AllZip, slice_get}
use Rattle.std.specs.List.Sorted.{IsStrictlySortedBy}
use Rattle.std.specs.Ordering.{ordering_then}
use Rattle.nextest_tree.specs.Node.{Node}
use Rattle.nextest_tree.specs.declared.tree.Tree.{Tree}
use Rattle.nextest_documents.specs.Shown.{Path}
use Rattle.nextest_documents.specs.Entries.{Leaf, IsLeaf, IsWanted, path_cmp, leaf_cmp, AreEntries}
use Rattle.nextest_documents.specs.Layers.{layers_view}
use Rattle.nextest_documents.specs.Sections.{Region, of_profile, beside, regions_behind, regions, region_cmp, base_path}
use Rattle.nextest_documents.specs.Writers.{countdown, writers_in, writers, IsEntry, IsFound, somes, AreAllFound, at_none, at_more}
use Rattle.nextest_documents.proofs.Finding.{one_entry}
use Rattle.nextest_documents.proofs.KeySets.{path_tied}
use Rattle.nextest_documents.proofs.Lists.{In, here, there, here_at, in_front, in_back, in_either, in_map, in_contained, contains_in, all_at, all_from, all_append, middle}
use Rattle.nextest_documents.proofs.Showing.{leaf_is}
use Rattle.nextest_documents.proofs.Writing.{HasPaths}

-- writers stand by their regions, and those of one region by their layers, the highest first
abbrev writer_cmp : Region × ℕ → Region × ℕ → Ordering
writer_cmp a b = ordering_then (region_cmp a.0 b.0) (nat_cmp b.1 a.1)

sorted_append : {X : Type 0} (cmp : X → X → Ordering) (xs ys : List X) → IsStrictlySortedBy cmp xs
    → IsStrictlySortedBy cmp ys → AllByRecursion (λ x. AllByRecursion (λ y. cmp x y ≡ Less) ys) xs
    → IsStrictlySortedBy cmp (xs ++ ys)
unfolding IsStrictlySortedBy
sorted_append cmp [] ys first second all = second
sorted_append cmp (x ∷ xs) ys first second all =
    (all_append (λ y. cmp x y ≡ Less) xs ys first.0 all.0, sorted_append cmp xs ys first.1 second all.1)

-- the layers of one region

region_tied : (r : Region) → region_cmp r r ≡ Equal
region_tied (of_profile nearer name) = tied_itself nat_cmp_total (length nearer)
region_tied beside = refl

layers_below : (r : Region) (n m : ℕ) → m ≤ n
    → AllByRecursion (λ w. writer_cmp (r, n) w ≡ Less) (writers_in m r)
layers_below r n zero h = tt
layers_below r n (suc m) h =
    let less : m < n = omega arith in
    let below : nat_cmp m n ≡ Less = sym (nat_cmp_is m n Less less) in
    (ap (λ o. ordering_then o (nat_cmp m n)) (region_tied r) ∙ below, layers_below r n m (omega arith))

layers_sorted : (r : Region) (n : ℕ) → IsStrictlySortedBy writer_cmp (writers_in n r)
unfolding IsStrictlySortedBy
layers_sorted r zero = tt
layers_sorted r (suc n) = (layers_below r n n (omega arith), layers_sorted r n)

-- the regions behind others

before_layers : (r s : Region) (n m : ℕ) → region_cmp r s ≡ Less
    → AllByRecursion (λ w. writer_cmp (r, n) w ≡ Less) (writers_in m s)
before_layers r s n zero less = tt
before_layers r s n (suc m) less = (ap (λ o. ordering_then o (nat_cmp m n)) less, before_layers r s n m less)

before_regions : (r : Region) (n count : ℕ) (rs : List Region) → AllByRecursion (λ s. region_cmp r s ≡ Less) rs
    → AllByRecursion (λ w. writer_cmp (r, n) w ≡ Less) (flat_map (writers_in count) rs)
before_regions r n count [] all = tt
before_regions r n count (s ∷ rs) all =
    all_append (λ w. writer_cmp (r, n) w ≡ Less) (writers_in count s) (flat_map (writers_in count) rs)
    (before_layers r s n count all.0) (before_regions r n count rs all.1)

all_before : (r : Region) (m count : ℕ) (rs : List Region) → AllByRecursion (λ s. region_cmp r s ≡ Less) rs
    → AllByRecursion (λ x. AllByRecursion (λ w. writer_cmp x w ≡ Less) (flat_map (writers_in count) rs))
    (writers_in m r)
all_before r zero count rs all = tt
all_before r (suc m) count rs all = (before_regions r m count rs all, all_before r m count rs all)

regions_after : (few : List (List ℕ)) (name : List ℕ) (nearer names : List (List ℕ)) → length few < length nearer
    → AllByRecursion (λ s. region_cmp (of_profile few name) s ≡ Less) (regions_behind nearer names)
regions_after few name nearer [] less = (refl, tt)
regions_after few name nearer (other ∷ names) less =
    let more : length few < length (nearer ++ other ∷ []) = rw (length-append nearer (other ∷ [])) (omega arith) in
    (sym (nat_cmp_is (length few) (length nearer) Less less), regions_after few name (nearer ++ other ∷ []) names more)

regions_sorted : (count : ℕ) (nearer names : List (List ℕ))
    → IsStrictlySortedBy writer_cmp (flat_map (writers_in count) (regions_behind nearer names))
regions_sorted count nearer [] =
    sorted_append writer_cmp (writers_in count beside) [] (layers_sorted beside count)
    (unfold IsStrictlySortedBy in tt) (all_before beside count count [] tt)
regions_sorted count nearer (name ∷ names) =
    let less : length nearer < length (nearer ++ name ∷ []) = rw (length-append nearer (name ∷ [])) (omega arith) in
    sorted_append writer_cmp (writers_in count (of_profile nearer name)) _
    (layers_sorted (of_profile nearer name) count) (regions_sorted count (nearer ++ name ∷ []) names)
    (all_before (of_profile nearer name) count count (regions_behind (nearer ++ name ∷ []) names)
    (regions_after nearer name (nearer ++ name ∷ []) names less))

-- which writers there are

last_or : (n i : ℕ) → i ≤ n → (i ≡ n) ⊎ (i < n)
last_or zero i h = inl (omega arith)
last_or (suc n) zero h = inr (omega arith)
last_or (suc n) (suc i) h = elim (last_or n i (omega arith)) [ inl e ↦ inl (ap suc e) | inr e ↦ inr (omega arith) ]

in_countdown : (n i : ℕ) → i < n → In i (countdown n)
in_countdown zero i h = absurd (omega arith)
in_countdown (suc n) i h = elim (last_or n i (omega arith)) [
  | inl same ↦ here_at i n (countdown n) same
  | inr less ↦ there (in_countdown n i less)
]

writer_in : (r : Region) (i count : ℕ) (rs : List Region) → In r rs → i < count
    → In (r, i) (flat_map (writers_in count) rs)
writer_in r i count l (here {xs = rs}) h =
    in_front (r, i) (writers_in count r) (flat_map (writers_in count) rs)
    (in_map (λ (layer : ℕ). (r, layer)) i (countdown count) (in_countdown count i h))
writer_in r i count l (there {y = s} {xs = rs} at) h =
    in_back (r, i) (writers_in count s) (flat_map (writers_in count) rs) (writer_in r i count rs at h)

layer_region : (r : Region) (n : ℕ) (w : Region × ℕ) → In w (writers_in n r) → w.0 ≡ r
layer_region r zero w i = elim i [ ]
layer_region r (suc n) w here = refl
layer_region r (suc n) w (there i) = layer_region r n w i

region_in : (count : ℕ) (rs : List Region) (w : Region × ℕ) → In w (flat_map (writers_in count) rs) → In w.0 rs
region_in count [] w i = elim i [ ]
region_in count (r ∷ rs) w i = elim (in_either w (writers_in count r) (flat_map (writers_in count) rs) i) [
  | inl at ↦ here_at w.0 r rs (layer_region r count w at)
  | inr at ↦ there (region_in count rs w at)
]

only : {X : Type 0} (x y : X) → In x (y ∷ []) → x ≡ y
only x y here = refl
only x y (there i) = elim i [ ]

front_all : {X : Type 0} (P : X → Type 0) (xs : List X) (x : X) → AllByRecursion P (xs ++ x ∷ []) → AllByRecursion P xs
front_all P [] x all = tt
front_all P (y ∷ xs) x all = (all.0, front_all P xs x all.1)

last_apart : (ps : List Path) (p : Path) → IsStrictlySortedBy path_cmp (ps ++ p ∷ [])
    → IsStrictlySortedBy path_cmp ps × AllByRecursion (λ q. path_cmp q p ≡ Less) ps
unfolding IsStrictlySortedBy
last_apart [] p sorted = (tt, tt)
last_apart (q ∷ ps) p sorted =
    let (before, below) = last_apart ps p sorted.1 in (
      (front_all (λ r. path_cmp q r ≡ Less) ps p sorted.0, before),
      (middle (λ r. path_cmp q r ≡ Less) p ps [] sorted.0, below),
    )

layer_within : (ls : List (Option (Bor Tree))) (i : ℕ) (n : Node) → slice_get (layers_view ls) i ≡ Some n
    → i < length ls
layer_within [] i n at = cc
layer_within (l ∷ ls) zero n at = omega arith
layer_within (l ∷ ls) (suc i) n at = let less = layer_within ls i n at in omega (arith, less)

-- what is found for each writer at one path

module _ (one : Region × ℕ → Option Leaf → Type 0) (P : Region × ℕ → Leaf → Type 0)
    (found : (w : Region × ℕ) (leaf : Leaf) → one w (Some leaf) → P w leaf) where
  some_writer : (ws : List (Region × ℕ)) (os : List (Option Leaf)) → AllZip one ws os → (leaf : Leaf)
      → In leaf (somes os) → (w : Region × ℕ) × In w ws × P w leaf
  some_writer [] [] all leaf i = elim i [ ]
  some_writer [] (o ∷ os) all leaf i = absurd all
  some_writer (w ∷ ws) [] all leaf i = absurd all
  some_writer (w ∷ ws) (None ∷ os) all leaf i =
      let (v, at, is) = some_writer ws os all.1 leaf i in (v, there at, is)
  some_writer (w ∷ ws) (Some l ∷ os) all leaf here = (w, here, found w l all.0)
  some_writer (w ∷ ws) (Some l ∷ os) all leaf (there i) =
      let (v, at, is) = some_writer ws os all.1 leaf i in (v, there at, is)

module _ (ls : List (Option (Bor Tree))) (keys : List (List ℕ)) (wh : Bool) where
  abbrev One : Path → Region × ℕ → Option Leaf → Type 0
  One = IsFound (layers_view ls) keys wh

  abbrev LayerLeaf : Path → Region × ℕ → Leaf → Type 0
  LayerLeaf = IsEntry (layers_view ls) keys wh

  own : (p : Path) (w : Region × ℕ) (leaf : Leaf) → One p w (Some leaf) → LayerLeaf p w leaf
  own p w leaf is = is

  -- an entry is found
  found_at : (p : Path) (w : Region × ℕ) (leaf : Leaf) → LayerLeaf p w leaf → (o : Option Leaf) (os : List (Option Leaf))
      → One p w o → In leaf (somes (o ∷ os))
  found_at p w leaf entry None os none = absurd (none leaf entry)
  found_at p w leaf entry (Some l) os is = here_at leaf l (somes os) (one_entry ls p w keys wh leaf l entry is)

  behind : (leaf : Leaf) (o : Option Leaf) (os : List (Option Leaf)) → In leaf (somes os) → In leaf (somes (o ∷ os))
  behind leaf None os i = i
  behind leaf (Some l) os i = there i

  found_in : (p : Path) (w : Region × ℕ) (leaf : Leaf) → LayerLeaf p w leaf → (ws : List (Region × ℕ))
      (os : List (Option Leaf)) → AllZip (One p) ws os → In w ws → In leaf (somes os)
  found_in p w leaf entry [] os all i = elim i [ ]
  found_in p w leaf entry (v ∷ ws) [] all i = absurd all
  found_in p w leaf entry l (o ∷ os) all (here {xs = ws}) = found_at p w leaf entry o os all.0
  found_in p w leaf entry l (o ∷ os) all (there {y = v} {xs = ws} i) =
      behind leaf o os (found_in p w leaf entry ws os all.1 i)

  -- an entry, with its path and its writer
  record Placed (ps : List Path) (ws : List (Region × ℕ)) (leaf : Leaf) : Type 0 where
    path : Path
    writer : Region × ℕ
    in_paths : In path ps
    in_writers : In writer ws
    entry : LayerLeaf path writer leaf

  placed : (ws : List (Region × ℕ)) (qs : List Path) (leaves : List Leaf) → AreAllFound One ws qs leaves
      → (leaf : Leaf) → In leaf leaves → Placed qs ws leaf
  placed ws l ms at_none leaf i = elim i [ ]
  placed ws l ms (at_more {ps = ps} {p = p} {old = old} {new = new} rest adds) leaf i =
      elim (in_either leaf old (somes adds.found) (subst (In leaf) adds.added i)) [
        | inl before ↦
            let b = placed ws ps old rest leaf before in
            record {
              path = b.path;
              writer = b.writer;
              in_paths = in_front b.path ps (p ∷ []) b.in_paths;
              in_writers = b.in_writers;
              entry = b.entry;
            }
        | inr at ↦
            let (w, is_one, entry) = some_writer (One p) (LayerLeaf p) (own p) ws adds.found adds.each leaf at in
            record { path = p; writer = w; in_paths = in_back p ps (p ∷ []) here; in_writers = is_one; entry = entry }
      ]

  complete : (ws : List (Region × ℕ)) (qs : List Path) (leaves : List Leaf) → AreAllFound One ws qs leaves
      → (q : Path) (w : Region × ℕ) (leaf : Leaf) → In q qs → In w ws → LayerLeaf q w leaf → In leaf leaves
  complete ws l ms at_none q w leaf i at entry = elim i [ ]
  complete ws l ms (at_more {ps = ps} {p = p} {old = old} {new = new} rest adds) q w leaf i at entry =
      let Q : List Leaf → Type 0 = In leaf in
      subst Q (sym adds.added) (elim (in_either q ps (p ∷ []) i) [
        | inl before ↦ in_front leaf old (somes adds.found) (complete ws ps old rest q w leaf before at entry)
        | inr last ↦
            in_back leaf old (somes adds.found)
            (found_in p w leaf (subst (λ r. LayerLeaf r w leaf) (only q p last) entry) ws adds.found adds.each at)
      ])

  -- two entries in their order
  in_order : (p q : Path) (v w : Region × ℕ) (a b : Leaf) → LayerLeaf p v a → LayerLeaf q w b
      → ordering_then (path_cmp p q) (writer_cmp v w) ≡ Less → leaf_cmp a b ≡ Less
  in_order p q v w a b x y less =
      rw (x.at.path, y.at.path, x.at.region, y.at.region, x.at.layer, y.at.layer) less

  later : (p : Path) (v : Region × ℕ) (a : Leaf) → LayerLeaf p v a → (ws : List (Region × ℕ)) (os : List (Option Leaf))
      → AllZip (One p) ws os → AllByRecursion (λ w. writer_cmp v w ≡ Less) ws
      → AllByRecursion (λ b. leaf_cmp a b ≡ Less) (somes os)
  later p v a x [] [] all less = tt
  later p v a x [] (o ∷ os) all less = absurd all
  later p v a x (w ∷ ws) [] all less = absurd all
  later p v a x (w ∷ ws) (None ∷ os) all less = later p v a x ws os all.1 less.1
  later p v a x (w ∷ ws) (Some b ∷ os) all less = (
    in_order p p v w a b x all.0 (ap (λ o. ordering_then o (writer_cmp v w)) (path_tied p) ∙ less.0),
    later p v a x ws os all.1 less.1,
  )

  row_sorted : (p : Path) (ws : List (Region × ℕ)) (os : List (Option Leaf)) → AllZip (One p) ws os
      → IsStrictlySortedBy writer_cmp ws → IsStrictlySortedBy leaf_cmp (somes os)
  unfolding IsStrictlySortedBy
  row_sorted p [] [] all sorted = tt
  row_sorted p [] (o ∷ os) all sorted = absurd all
  row_sorted p (w ∷ ws) [] all sorted = absurd all
  row_sorted p (w ∷ ws) (None ∷ os) all sorted = row_sorted p ws os all.1 sorted.1
  row_sorted p (w ∷ ws) (Some a ∷ os) all sorted =
      (later p w a all.0 ws os all.1 sorted.0, row_sorted p ws os all.1 sorted.1)

  ascend : (ws : List (Region × ℕ)) → IsStrictlySortedBy writer_cmp ws → (qs : List Path) (leaves : List Leaf)
      → AreAllFound One ws qs leaves → IsStrictlySortedBy path_cmp qs → IsStrictlySortedBy leaf_cmp leaves
  ascend ws writers_ascend l ms at_none sorted = unfold IsStrictlySortedBy in tt
  ascend ws writers_ascend l ms (at_more {ps = ps} {p = p} {old = old} {new = new} rest adds) sorted =
      let (before, below) = last_apart ps p sorted in
      let Q : List Leaf → Type 0 = IsStrictlySortedBy leaf_cmp in
      subst Q (sym adds.added) (sorted_append leaf_cmp old (somes adds.found)
      (ascend ws writers_ascend ps old rest before) (row_sorted p ws adds.found adds.each writers_ascend)
      (all_from (λ a. AllByRecursion (λ b. leaf_cmp a b ≡ Less) (somes adds.found)) old (λ a i.
      let x = placed ws ps old rest a i in
      all_from (λ b. leaf_cmp a b ≡ Less) (somes adds.found) (λ b j.
      let (w, is_one, y) = some_writer (One p) (LayerLeaf p) (own p) ws adds.found adds.each b j in
      in_order x.path p x.writer w a b x.entry y
      (ap (λ o. ordering_then o (writer_cmp x.writer w))
      (all_at (λ r. path_cmp r p ≡ Less) x.path ps below x.in_paths))))))

-- the leaves that are found for the writers of a chain at all paths
pub conclude : (ls : List (Option (Bor Tree))) (chain keys : List (List ℕ)) (wh : Bool) (ps : List Path)
    (leaves : List Leaf) → AllByRecursion (HasPaths ls ps) (writers chain (length ls))
    → AreAllFound (IsFound (layers_view ls) keys wh) (writers chain (length ls)) ps leaves
    → IsStrictlySortedBy path_cmp ps → AreEntries (layers_view ls) chain keys wh leaves
conclude ls chain keys wh ps leaves has all sorted =
    let L = layers_view ls in
    let ws = writers chain (length ls) in
    let at = placed ls keys wh ws ps leaves all in
    record {
      within = all_from (λ leaf. Contains (regions chain) leaf.region) leaves (λ leaf i.
          let x = at leaf i in
          contains_in leaf.region (regions chain) (subst (λ r. In r (regions chain)) (sym x.entry.at.region)
          (region_in (length ls) (regions chain) x.writer x.in_writers)));
      sound = all_from (IsLeaf L keys) leaves (λ leaf i. let x = at leaf i in x.entry.leaf_is);
      wanted = all_from (IsWanted wh) leaves (λ leaf i. let x = at leaf i in x.entry.wanted);
      complete = λ leaf region is wanted.
          let w : Region × ℕ = (leaf.region, leaf.layer) in
          let within : leaf.layer < length ls = layer_within ls leaf.layer is.written.node is.written.layer in
          let i : In w ws =
          writer_in leaf.region leaf.layer (length ls) (regions chain) (in_contained leaf.region (regions chain) region)
          within in
          let there_is = leaf_is ls leaf.layer (base_path leaf.region ++ leaf.path) leaf.value
          (is.written.node, is.written.layer, is.written.leaf) in
          let q = in_contained leaf.path ps (all_at (HasPaths ls ps) w ws has i leaf.path leaf.value there_is) in
          contains_in leaf leaves (complete ls keys wh ws ps leaves all leaf.path w leaf q i
          (record { at = record { path = refl; region = refl; layer = refl }; leaf_is = is; wanted = wanted }));
      ascend = ascend ls keys wh ws (regions_sorted (length ls) [] chain) ps leaves all sorted;
    }
