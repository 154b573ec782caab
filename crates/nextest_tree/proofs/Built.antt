-- The keys of the tables that are built from a document ascend.
use Rattle.std.proofs.Common.{◌≡◌, ℕ, List, [], ◌∷◌, ◌++◌, map, String, Global, Ordering, Less, Equal, Greater, nat_cmp, string_bytes, sym, subst}
use Rattle.std.specs.Cmp.Lexicographic.{slice_cmp}
use Rattle.std.specs.List.{AllByRecursion}
use Rattle.std.specs.List.Sorted.{IsStrictlySortedBy}
use Rattle.std.specs.Map.{keys_of}
use Rattle.std.specs.Ordering.{match_ordering}
use Rattle.std.specs.BTreeMap.{insert_entry}
use Rattle.std.specs.String.{string_cmp}
use Rattle.toml.specs.View.{members_view}
use Rattle.toml.specs.declared.value.Value.{Value}
use Rattle.nextest_tree.specs.Node.{Node, Entries, no_entries, entry, put, PrecedesKeys, IsSorted, NodesAreSorted, EntriesAreSorted}
use Rattle.nextest_tree.specs.View.{tree_view, nodes_of, entries_view}
use Rattle.nextest_tree.specs.declared.tree.Tree.{Tree}
use Rattle.nextest_tree.proofs.Trees.{members-insert_entry}
use Rattle.nextest_tree.specs.Value.{from_members}

-- the tables inside the values are sorted
abbrev pub ValuesAreSorted : Entries → Type 0
ValuesAreSorted no_entries = Unit {0}
ValuesAreSorted (entry k n es) = IsSorted n × ValuesAreSorted es

by_ordering : (o : Ordering) (a b c : Entries) → ValuesAreSorted a → ValuesAreSorted b → ValuesAreSorted c
    → ValuesAreSorted (match_ordering o a b c)
by_ordering Less a b c x y z = x
by_ordering Equal a b c x y z = y
by_ordering Greater a b c x y z = z

put_sorted : (k : List ℕ) (n : Node) (es : Entries) → IsSorted n → ValuesAreSorted es → ValuesAreSorted (put k n es)
put_sorted k n no_entries h hs = (h, tt)
put_sorted k n (entry l m es) h hs =
    by_ordering (slice_cmp nat_cmp k l) _ _ _ (h, hs) (h, hs.1) (hs.0, put_sorted k n es h hs.1)

-- one more value
pub insert_sorted : (es : List (String Global × Tree)) (k : String Global) (t : Tree) → IsSorted (tree_view t)
    → ValuesAreSorted (entries_view es) → ValuesAreSorted (entries_view (insert_entry string_cmp es k t))
insert_sorted es k t h hs = let P : Entries → Type 0 = ValuesAreSorted in
    subst P (sym (members-insert_entry es k t)) (put_sorted (string_bytes k) (tree_view t) (entries_view es) h hs)

all_before : (k : String Global) (vs : List (String Global × Value))
    → AllByRecursion (λ y. string_cmp k y ≡ Less) (keys_of vs)
    → PrecedesKeys (string_bytes k) (from_members (members_view vs))
all_before k [] h = tt
all_before k (v ∷ vs) h = (h.0, all_before k vs h.1)

entries_sorted : (vs : List (String Global × Value)) → IsStrictlySortedBy string_cmp (keys_of vs)
    → ValuesAreSorted (from_members (members_view vs)) → EntriesAreSorted (from_members (members_view vs))
unfolding IsStrictlySortedBy
entries_sorted [] h hs = tt
entries_sorted (v ∷ vs) h hs = (all_before v.0 vs h.0, hs.0, entries_sorted vs h.1 hs.1)

-- the trees of all members of a table
pub table_sorted : (vs : List (String Global × Value)) (es : Entries)
    → IsStrictlySortedBy string_cmp (keys_of vs) → es ≡ from_members (members_view vs) → ValuesAreSorted es
    → EntriesAreSorted es
table_sorted vs es h e hs =
    let P : Entries → Type 0 = EntriesAreSorted in
    let Q : Entries → Type 0 = ValuesAreSorted in
    subst P (sym e) (entries_sorted vs h (subst Q e hs))

-- one more item
pub push_sorted : (ts : List Tree) (t : Tree) → NodesAreSorted (nodes_of (map tree_view ts))
    → IsSorted (tree_view t) → NodesAreSorted (nodes_of (map tree_view (ts ++ t ∷ [])))
push_sorted [] t hs h = (h, tt)
push_sorted (s ∷ ts) t hs h = (hs.0, push_sorted ts t hs.1 h)
