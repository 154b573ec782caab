-- The trees of a load are sorted, and so are the names of their profiles.
use Rattle.std.proofs.Common.{◌≡◌, ℕ, List, [], ◌∷◌, map, Option, None, Some, option_and_then, unwrap_or, Ordering, Less, Equal, Greater, nat_cmp, refl, ap, subst}
use Rattle.std.specs.Cmp.Lexicographic.{slice_cmp}
use Rattle.std.specs.List.{AllByRecursion}
use Rattle.std.specs.List.Sorted.{IsStrictlySortedBy}
use Rattle.std.specs.Map.{keys_of}
use Rattle.std.specs.Ordering.{match_ordering}
use Rattle.nextest_documents.specs.Text.{tree_of}
use Rattle.nextest_documents.proofs.Sorted.{merged_sorted}
use Rattle.nextest_rules.specs.Steps.{written_parents}
use Rattle.nextest_sources.specs.Inputs.{SourceText}
use Rattle.nextest_tables.specs.Defaults.{defaults}
use Rattle.nextest_tables.specs.FileTexts.{ProfileText, profile_text, file_text, names_in}
use Rattle.nextest_tables.specs.Texts.{at_key, each_in, entries_at}
use Rattle.nextest_tables.specs.Written.{Name}
use Rattle.nextest_tables.proofs.Defaulting.{sorted}
use Rattle.nextest_tree.specs.declared.key.Key.{Key}
use Rattle.nextest_tree.specs.declared.key.Key.TheVariants as keys
use Rattle.nextest_tree.specs.Key.{key_text}
use Rattle.nextest_tree.specs.Node.{Node, table, array, text, int, bool, opaque, Entries, no_entries, entry, get, as_table, member_of, PrecedesKeys, IsSorted, EntriesAreSorted}
use Rattle.nextest_load.specs.Trees.{tree_in, own_tree, merged_tree}
use Rattle.nextest_load.proofs.Documents.{Holds, nothing, just, document_sorted}

in_sorted : (o : Option Node) → Holds IsSorted o → IsSorted (unwrap_or o (table no_entries))
in_sorted None nothing = tt
in_sorted (Some n) (just h) = h

-- the tree of a source is sorted, also over the defaults
pub source_sorted : (s : SourceText) → IsSorted (tree_in s)
source_sorted s = in_sorted (tree_of s.text) (document_sorted s.text)

pub own_sorted : (s : SourceText) → IsSorted (own_tree s)
own_sorted s = merged_sorted defaults (tree_in s ∷ []) sorted (source_sorted s, tt)

sources_sorted : (ss : List SourceText) → AllByRecursion IsSorted (map tree_in ss)
sources_sorted [] = tt
sources_sorted (s ∷ ss) = (source_sorted s, sources_sorted ss)

-- and so is the merged tree
pub whole_sorted : (ss : List SourceText) → IsSorted (merged_tree ss)
whole_sorted ss = merged_sorted defaults (map tree_in ss) sorted (sources_sorted ss)

found_at : (o : Ordering) (m : Node) (rest : Option Node) → IsSorted m → Holds IsSorted rest
    → Holds IsSorted (match_ordering o rest (Some m) rest)
found_at Less m rest h s = s
found_at Equal m rest h s = just h
found_at Greater m rest h s = s

found : (k : List ℕ) (es : Entries) → EntriesAreSorted es → Holds IsSorted (get k es)
found k no_entries s = nothing
found k (entry l m es) s = found_at (slice_cmp nat_cmp k l) m (get k es) s.1 (found k es s.2)

member : (k : List ℕ) (n : Node) → IsSorted n → Holds IsSorted (member_of k n)
member k (table es) s = found k es s
member k (array ns) s = nothing
member k (text t) s = nothing
member k (int z) s = nothing
member k (bool b) s = nothing
member k opaque s = nothing

as_sorted : (n : Node) → IsSorted n → EntriesAreSorted (unwrap_or (as_table n) no_entries)
as_sorted (table es) s = s
as_sorted (array ns) s = tt
as_sorted (text t) s = tt
as_sorted (int z) s = tt
as_sorted (bool b) s = tt
as_sorted opaque s = tt

table_sorted : (o : Option Node) → Holds IsSorted o
    → EntriesAreSorted (unwrap_or (option_and_then as_table o) no_entries)
table_sorted None nothing = tt
table_sorted (Some n) (just h) = as_sorted n h

-- the table at a key is sorted
pub entries_sorted : (k : Key) (n : Node) → IsSorted n → EntriesAreSorted (entries_at k n)
entries_sorted k n s = table_sorted (at_key k n) (member (key_text k) n s)

before_names : {X : Type 0} (f : Node → X) (k : List ℕ) (es : Entries) → PrecedesKeys k es
    → AllByRecursion (λ y. slice_cmp nat_cmp k y ≡ Less) (names_in (each_in f es))
before_names f k no_entries h = tt
before_names f k (entry l n es) h = (h.0, before_names f k es h.1)

names_ascend : {X : Type 0} (f : Node → X) (es : Entries) → EntriesAreSorted es
    → IsStrictlySortedBy (slice_cmp nat_cmp) (names_in (each_in f es))
unfolding IsStrictlySortedBy
names_ascend f no_entries h = tt
names_ascend f (entry k n es) h = (before_names f k es h.0, names_ascend f es h.2)

-- the names of the profiles of a sorted tree ascend
pub profiles_ascend : (n : Node) → IsSorted n → IsStrictlySortedBy (slice_cmp nat_cmp) (names_in (file_text n).profiles)
profiles_ascend n s = names_ascend profile_text (entries_at keys.Profile n) (entries_sorted keys.Profile n s)

same_keys : (ps : List (Name × ProfileText)) → names_in ps ≡ keys_of (written_parents ps)
same_keys [] = refl
same_keys (p ∷ ps) = ap (λ names. p.0 ∷ names) (same_keys ps)

-- and so do those that their parents are under
pub parents_ascend : (n : Node) → IsSorted n
    → IsStrictlySortedBy (slice_cmp nat_cmp) (keys_of (written_parents (file_text n).profiles))
parents_ascend n s = let P : List Name → Type 0 = IsStrictlySortedBy (slice_cmp nat_cmp) in
    subst P (same_keys (file_text n).profiles) (profiles_ascend n s)
