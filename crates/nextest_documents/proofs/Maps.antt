-- A map beside the members that it means.
use Rattle.std.proofs.Common.{◌≡◌, ℕ, List, [], ◌∷◌, ◌++◌, cond, Some, None, String, Global, Ordering, Less, Equal, Greater, nat_cmp, string_bytes, is_eq, refl, ap, ◌∙◌}
use Rattle.std.proofs.lemmas.Cmp.{nat_list_cmp_total}
use Rattle.std.specs.Cmp.Lexicographic.{slice_cmp}
use Rattle.std.specs.List.{AllByRecursion}
use Rattle.std.specs.List.Sorted.{IsStrictlySortedBy}
use Rattle.std.specs.Map.{keys_of, lookup, set_value}
use Rattle.std.specs.Ordering.{match_ordering, ordering_reverse}
use Rattle.std.specs.BTreeMap.{is_at}
use Rattle.std.specs.String.{string_cmp}
use Rattle.nextest_tree.specs.Node.{entry, put}
use Rattle.nextest_tree.specs.View.{tree_view, entries_view}
use Rattle.nextest_tree.specs.declared.tree.Tree.{Tree}
use Rattle.nextest_tree.proofs.Trees.{below_middle}

abbrev pub Entry : Type 0
Entry = String Global × Tree

-- a key that is above those before it goes last
pub put_last : (done : List Entry) (e : Entry) (more : List Entry)
    → IsStrictlySortedBy string_cmp (keys_of (done ++ e ∷ more))
    → put (string_bytes e.0) (tree_view e.1) (entries_view done) ≡ entries_view (done ++ e ∷ [])
unfolding IsStrictlySortedBy
put_last [] e more h = refl
put_last (first ∷ done) e more h =
    let above : slice_cmp nat_cmp (string_bytes e.0) (string_bytes first.0) ≡ Greater =
    nat_list_cmp_total.antisymm (string_bytes e.0) (string_bytes first.0)
    ∙ ap ordering_reverse (below_middle first done e more h.0) in
    rw above (ap (entry (string_bytes first.0) (tree_view first.1)) (put_last done e more h.1))

abbrev pub text_cmp : List ℕ → String Global → Ordering
text_cmp k x = slice_cmp nat_cmp k (string_bytes x)

-- a text below the first of the keys that ascend is at none of them
none_above : (k l : List ℕ) (es : List Entry) → slice_cmp nat_cmp k l ≡ Less
    → AllByRecursion (λ y. slice_cmp nat_cmp l (string_bytes y) ≡ Less) (keys_of es)
    → lookup (is_at (text_cmp k)) es ≡ None
none_above k l [] below h = refl
none_above k l (e ∷ es) below h =
    let here : slice_cmp nat_cmp k (string_bytes e.0) ≡ Less =
    nat_list_cmp_total.trans k l (string_bytes e.0) below h.0 in
    rw here (none_above k l es below h.1)

set_at : (o : Ordering) (k : List ℕ) (e : Entry) (es : List Entry) (w found : Tree)
    → slice_cmp nat_cmp k (string_bytes e.0) ≡ o
    → AllByRecursion (λ y. string_cmp e.0 y ≡ Less) (keys_of es)
    → (lookup (is_at (text_cmp k)) es ≡ Some found
    → entries_view (set_value (is_at (text_cmp k)) es w) ≡ put k (tree_view w) (entries_view es))
    → cond (is_eq o) (Some e.1) (lookup (is_at (text_cmp k)) es) ≡ Some found
    → entries_view (cond (is_eq o) ((e.0, w) ∷ es) (e ∷ set_value (is_at (text_cmp k)) es w))
    ≡ match_ordering o (entry k (tree_view w) (entries_view (e ∷ es))) (entries_view ((e.0, w) ∷ es))
    (entry (string_bytes e.0) (tree_view e.1) (put k (tree_view w) (entries_view es)))
set_at Less k e es w found is h ih at = let none : lookup (is_at (text_cmp k)) es ≡ None =
    none_above k (string_bytes e.0) es is h in cc
set_at Equal k e es w found is h ih at = refl
set_at Greater k e es w found is h ih at = ap (entry (string_bytes e.0) (tree_view e.1)) (ih at)

-- what writing through a map leaves
pub members-set_value : (k : List ℕ) (es : List Entry) (w found : Tree)
    → IsStrictlySortedBy string_cmp (keys_of es) → lookup (is_at (text_cmp k)) es ≡ Some found
    → entries_view (set_value (is_at (text_cmp k)) es w) ≡ put k (tree_view w) (entries_view es)
unfolding IsStrictlySortedBy
members-set_value k [] w found h at = cc
members-set_value k (e ∷ es) w found h at =
    set_at (slice_cmp nat_cmp k (string_bytes e.0)) k e es w found refl h.0 (members-set_value k es w found h.1) at
