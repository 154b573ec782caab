-- One step of laying a map over another.
use Rattle.std.proofs.Common.{◌≡◌, ℕ, List, [], ◌∷◌, ◌++◌, Option, Some, None, option_map, String, Global, string_bytes, sym, ap, ◌∙◌, refl}
use Rattle.std.specs.List.Sorted.{IsStrictlySortedBy}
use Rattle.std.specs.Map.{keys_of, lookup, set_value}
use Rattle.std.specs.BTreeMap.{insert_entry, is_at}
use Rattle.std.specs.Option.{option_map_or}
use Rattle.std.specs.String.{string_cmp}
use Rattle.nextest_tree.specs.Node.{Node, Entries, entry, get, put}
use Rattle.nextest_documents.specs.Merge.{over, entries_over}
use Rattle.nextest_tree.specs.View.{tree_view, entries_view}
use Rattle.nextest_tree.specs.declared.tree.Tree.{Tree}
use Rattle.nextest_tree.proofs.Trees.{below_middle, members-insert_entry, members-lookup}
use Rattle.nextest_documents.proofs.Laying.{AllBelow, with_last, entries_over-last}
use Rattle.nextest_documents.proofs.Maps.{Entry, text_cmp, members-set_value}

-- what goes to a key at which the lower members have this
abbrev pub laid : Tree → Option Node → Node
laid above lower = option_map_or (λ d. over (tree_view above) d) lower (tree_view above)

pub put_found : (k : List ℕ) (above found merged : Tree) (es : List Entry) → IsStrictlySortedBy string_cmp (keys_of es)
    → lookup (is_at (text_cmp k)) es ≡ Some found → tree_view merged ≡ over (tree_view above) (tree_view found)
    → entries_view (set_value (is_at (text_cmp k)) es merged)
    ≡ put k (laid above (get k (entries_view es))) (entries_view es)
put_found k above found merged es sorted at is =
    let there : get k (entries_view es) ≡ Some (tree_view found) =
    sym (members-lookup k es) ∙ ap (option_map tree_view) at in
    members-set_value k es merged found sorted at ∙ rw (there, is)

pub put_new : (name : String Global) (k : List ℕ) (above merged : Tree) (es : List Entry)
    → lookup (is_at (text_cmp k)) es ≡ None → string_bytes name ≡ k → tree_view merged ≡ tree_view above
    → entries_view (insert_entry string_cmp es name merged)
    ≡ put k (laid above (get k (entries_view es))) (entries_view es)
put_new name k above merged es at named is =
    let there : get k (entries_view es) ≡ None = sym (members-lookup k es) ∙ ap (option_map tree_view) at in
    members-insert_entry es name merged ∙ rw (there, named, is)

pub members-last : (done : List Entry) (e : Entry)
    → entries_view (done ++ e ∷ []) ≡ with_last (entries_view done) (string_bytes e.0) (tree_view e.1)
members-last [] e = refl
members-last (x ∷ done) e = ap (entry (string_bytes x.0) (tree_view x.1)) (members-last done e)

pub below_all : (done : List Entry) (e : Entry) (rest : List Entry)
    → IsStrictlySortedBy string_cmp (keys_of (done ++ e ∷ rest)) → AllBelow (string_bytes e.0) (entries_view done)
unfolding IsStrictlySortedBy
below_all [] e rest h = tt
below_all (x ∷ done) e rest h = (below_middle x done e rest h.0, below_all done e rest h.1)

-- one more entry of the higher map is laid over
pub laid_last : (done : List Entry) (e : Entry) (rest : List Entry) (below now : Entries)
    → IsStrictlySortedBy string_cmp (keys_of (done ++ e ∷ rest))
    → now ≡ entries_over (entries_view done) below
    → put (string_bytes e.0) (laid e.1 (get (string_bytes e.0) now)) now
    ≡ entries_over (entries_view (done ++ e ∷ [])) below
laid_last done e rest below now sorted is =
    rw (is, members-last done e)
    (sym (entries_over-last (entries_view done) below (string_bytes e.0) (tree_view e.1)
    (below_all done e rest sorted)))
