-- A document's values beside the trees that are built of them.
use Rattle.std.proofs.Common.{◌≡◌, List, [], ◌∷◌, ◌++◌, map, String, Global, Greater, nat_cmp, string_bytes, refl, ap, ◌∙◌}
use Rattle.std.proofs.lemmas.Cmp.{nat_list_cmp_total}
use Rattle.std.specs.Cmp.Lexicographic.{slice_cmp}
use Rattle.std.specs.List.Sorted.{IsStrictlySortedBy}
use Rattle.std.specs.Map.{keys_of}
use Rattle.std.specs.Ordering.{ordering_reverse}
use Rattle.std.specs.BTreeMap.{insert_entry}
use Rattle.std.specs.String.{string_cmp}
use Rattle.toml.specs.View.{view, items_view, members_view}
use Rattle.toml.specs.declared.value.Value.{Value}
use Rattle.nextest_tree.proofs.Trees.{below_middle, members-insert_entry}
use Rattle.nextest_tree.specs.Node.{entry, node, put}
use Rattle.nextest_tree.specs.View.{tree_view, nodes_of, entries_view}
use Rattle.nextest_tree.specs.declared.tree.Tree.{Tree}
use Rattle.nextest_tree.specs.Value.{from_data, from_items, from_members}

pub from_items-view : (vs : List Value) → from_items (items_view vs) ≡ nodes_of (map (λ v. from_data (view v)) vs)
from_items-view [] = refl
from_items-view (v ∷ vs) = ap (node (from_data (view v))) (from_items-view vs)

-- a key that is above those before it goes last
put_last : (done : List (String Global × Value)) (e : String Global × Value)
    (more : List (String Global × Value)) → IsStrictlySortedBy string_cmp (keys_of (done ++ e ∷ more))
    → put (string_bytes e.0) (from_data (view e.1)) (from_members (members_view done))
    ≡ from_members (members_view (done ++ e ∷ []))
unfolding IsStrictlySortedBy
put_last [] e more h = refl
put_last (first ∷ done) e more h =
    let above : slice_cmp nat_cmp (string_bytes e.0) (string_bytes first.0) ≡ Greater =
    nat_list_cmp_total.antisymm (string_bytes e.0) (string_bytes first.0)
    ∙ ap ordering_reverse (below_middle first done e more h.0) in
    rw above (ap (entry (string_bytes first.0) (from_data (view first.1))) (put_last done e more h.1))

-- one more entry, whose key is above those before it
pub one_more : (done : List (String Global × Value)) (e : String Global × Value)
    (more : List (String Global × Value)) (trees : List (String Global × Tree)) (k : String Global) (t : Tree)
    → IsStrictlySortedBy string_cmp (keys_of (done ++ e ∷ more))
    → entries_view trees ≡ from_members (members_view done) → string_bytes k ≡ string_bytes e.0
    → tree_view t ≡ from_data (view e.1)
    → entries_view (insert_entry string_cmp trees k t) ≡ from_members (members_view (done ++ e ∷ []))
one_more done e more trees k t sorted so_far same seen =
    members-insert_entry trees k t ∙ rw (same, seen, so_far) (put_last done e more sorted)
