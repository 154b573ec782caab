-- A map that grows by keys that ascend.
use Rattle.std.proofs.Common.{◌≡◌, ℕ, List, [], ◌∷◌, ◌++◌, String, Global, Ordering, Less, Greater, nat_cmp, string_bytes, ap, ◌∙◌}
use Rattle.std.proofs.lemmas.Cmp.{nat_list_cmp_total}
use Rattle.std.specs.Cmp.Lexicographic.{slice_cmp}
use Rattle.std.specs.List.{AllByRecursion}
use Rattle.std.specs.List.Sorted.{IsStrictlySortedBy}
use Rattle.std.specs.Map.{keys_of}
use Rattle.std.specs.Ordering.{ordering_reverse}
use Rattle.std.specs.BTreeMap.{insert_entry}
use Rattle.std.specs.String.{string_cmp}
use Rattle.nextest_tree.specs.Node.{Node}
use Rattle.nextest_tree.specs.View.{tree_view, entries_view}
use Rattle.nextest_tree.specs.Reads.{IsMap}
use Rattle.nextest_tree.specs.declared.tree.Tree.{Tree}

below_middle : (first : String Global × Tree) (es : List (String Global × Tree)) (e : String Global × Tree)
    (more : List (String Global × Tree))
    → AllByRecursion (λ y. string_cmp first.0 y ≡ Less) (keys_of (es ++ e ∷ more)) → string_cmp first.0 e.0 ≡ Less
below_middle first [] e more h = h.0
below_middle first (x ∷ es) e more h = below_middle first es e more h.1

-- the values so far and one more, below_step a key that is above theirs
pub map_more : {K X : Type 0} (cmp : K → K → Ordering) (text : K → List ℕ) (P : Node → X → Type 0)
    → ((a b : K) → cmp a b ≡ slice_cmp nat_cmp (text a) (text b))
    → (done : List (String Global × Tree)) (e : String Global × Tree) (more : List (String Global × Tree))
    (xs : List (K × X)) (k : K) (x : X)
    → IsStrictlySortedBy string_cmp (keys_of (done ++ e ∷ more)) → IsMap text P (entries_view done) xs
    → text k ≡ string_bytes e.0 → P (tree_view e.1) x
    → IsMap text P (entries_view (done ++ e ∷ [])) (insert_entry cmp xs k x)
unfolding IsStrictlySortedBy
map_more cmp text P same [] e more [] k x h m t p = (t, p, tt)
map_more cmp text P same [] e more (y ∷ ys) k x h m t p = absurd m
map_more cmp text P same (d ∷ done) e more [] k x h m t p = absurd m
map_more cmp text P same (d ∷ done) e more (y ∷ ys) k x h m t p =
    let less : slice_cmp nat_cmp (string_bytes d.0) (string_bytes e.0) ≡ Less = below_middle d done e more h.0 in
    let above : cmp k y.0 ≡ Greater =
    same k y.0 ∙ rw (t, m.0) (nat_list_cmp_total.antisymm (string_bytes e.0) (string_bytes d.0)
    ∙ ap ordering_reverse less) in
    rw above (m.0, m.1, map_more cmp text P same done e more ys k x h.1 m.2 t p)
