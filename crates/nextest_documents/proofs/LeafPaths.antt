-- The paths of leaves.
use Rattle.std.proofs.Common.{◌≡◌, ℕ, List, [], ◌∷◌, ◌++◌, map, Some, option_and_then, String, Global, string_bytes, Ordering, Less, Equal, Greater, nat_cmp, refl, sym, ap, ◌∙◌, append_assoc}
use Rattle.std.proofs.lemmas.List.{append-nil, map-append}
use Rattle.std.proofs.lemmas.Map.Lookups.{exact_bytes}
use Rattle.std.specs.Cmp.Lexicographic.{slice_cmp}
use Rattle.std.specs.Ordering.{match_ordering}
use Rattle.nextest_tree.specs.Node.{Node, table, Entries, no_entries, entry, get}
use Rattle.nextest_tree.specs.View.{tree_view, entries_view}
use Rattle.nextest_tree.specs.declared.tree.Tree.{Tree}
use Rattle.nextest_documents.specs.Shown.{Path, a_leaf, node_at}
use Rattle.nextest_documents.specs.Leaves.{leaf_paths, member_paths}
use Rattle.nextest_documents.proofs.Lists.{In, here, in_front, in_back, in_map}

abbrev pub LayerLeaf : Type 0
LayerLeaf = String Global × Tree

-- the leaves of one entry more
pub member_paths-last : (done : List LayerLeaf) (e : LayerLeaf)
    → member_paths (entries_view (done ++ e ∷ []))
    ≡ member_paths (entries_view done) ++ map (λ p. string_bytes e.0 ∷ p) (leaf_paths (tree_view e.1))
member_paths-last [] e = append-nil (map (λ p. string_bytes e.0 ∷ p) (leaf_paths (tree_view e.1)))
member_paths-last (d ∷ done) e =
    ap (λ ps. map (λ p. string_bytes d.0 ∷ p) (leaf_paths (tree_view d.1)) ++ ps) (member_paths-last done e)
    ∙ sym (append_assoc (map (λ p. string_bytes d.0 ∷ p) (leaf_paths (tree_view d.1)))
    (member_paths (entries_view done))
    (map (λ p. string_bytes e.0 ∷ p) (leaf_paths (tree_view e.1))))

-- paths behind a path that is one key longer
behind : (front : Path) (k : List ℕ) (ps : List Path)
    → map (λ p. (front ++ k ∷ []) ++ p) ps ≡ map (λ p. front ++ p) (map (λ p. k ∷ p) ps)
behind front k [] = refl
behind front k (p ∷ ps) =
    ap (λ q. q ∷ map (λ p. (front ++ k ∷ []) ++ p) ps) (append_assoc front (k ∷ []) p)
    ∙ ap (λ qs. (front ++ k ∷ p) ∷ qs) (behind front k ps)

-- the paths so far with those of one entry more
pub one_more : (front longer : Path) (e : LayerLeaf) (done : List LayerLeaf) (old so_far new : List Path)
    → longer ≡ front ++ string_bytes e.0 ∷ []
    → so_far ≡ old ++ map (λ p. front ++ p) (member_paths (entries_view done))
    → new ≡ so_far ++ map (λ p. longer ++ p) (leaf_paths (tree_view e.1))
    → new ≡ old ++ map (λ p. front ++ p) (member_paths (entries_view (done ++ e ∷ [])))
one_more front longer e done old so_far new long is added =
    let more = leaf_paths (tree_view e.1) in
    let front_of = λ (p : Path). front ++ p in
    added
    ∙ ap (λ ps. ps ++ map (λ p. longer ++ p) more) is
    ∙ ap (λ l. (old ++ map front_of (member_paths (entries_view done))) ++ map (λ p. l ++ p) more) long
    ∙ ap (λ ps. (old ++ map front_of (member_paths (entries_view done))) ++ ps) (behind front (string_bytes e.0) more)
    ∙ append_assoc old (map front_of (member_paths (entries_view done)))
    (map front_of (map (λ p. string_bytes e.0 ∷ p) more))
    ∙ ap (λ ps. old ++ ps) (sym
    (map-append front_of (member_paths (entries_view done)) (map (λ p. string_bytes e.0 ∷ p) more)))
    ∙ ap (λ ps. old ++ map front_of ps) (sym (member_paths-last done e))

-- each leaf has its path among them
entry_at : (o : Ordering) (k l : List ℕ) (ks : Path) (n v : Node) (es : Entries) → slice_cmp nat_cmp k l ≡ o
    → (node_at ks n ≡ Some (a_leaf v) → In ks (leaf_paths n))
    → (option_and_then (node_at ks) (get k es) ≡ Some (a_leaf v) → In (k ∷ ks) (member_paths es))
    → option_and_then (node_at ks) (match_ordering o (get k es) (Some n) (get k es)) ≡ Some (a_leaf v)
    → In (k ∷ ks) (member_paths (entry l n es))
entry_at Less k l ks n v es is one others at =
    in_back (k ∷ ks) (map (λ p. l ∷ p) (leaf_paths n)) (member_paths es) (others at)
entry_at Equal k l ks n v es is one others at =
    let same : k ≡ l = exact_bytes k l is in
    in_front (k ∷ ks) (map (λ p. l ∷ p) (leaf_paths n)) (member_paths es)
    (rw same (in_map (λ p. l ∷ p) ks (leaf_paths n) (one at)))
entry_at Greater k l ks n v es is one others at =
    in_back (k ∷ ks) (map (λ p. l ∷ p) (leaf_paths n)) (member_paths es) (others at)

mutual
  pub has_path : (p : Path) (n v : Node) → node_at p n ≡ Some (a_leaf v) → In p (leaf_paths n)
  has_path [] (table es) v at = cc
  has_path [] n v at = here
  has_path (k ∷ ks) (table es) v at = has_member k ks es v at
  has_path (k ∷ ks) n v at = cc

  has_member : (k : List ℕ) (ks : Path) (es : Entries) (v : Node)
      → option_and_then (node_at ks) (get k es) ≡ Some (a_leaf v) → In (k ∷ ks) (member_paths es)
  has_member k ks no_entries v at = cc
  has_member k ks (entry l n es) v at =
      entry_at (slice_cmp nat_cmp k l) k l ks n v es refl (has_path ks n v) (has_member k ks es v) at
