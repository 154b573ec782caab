-- Trees beside the nodes that they mean.
use Rattle.std.proofs.Common.{◌≡◌, ℕ, List, [], ◌∷◌, ◌++◌, map, String, Global, Ordering, Less, Equal, Greater, nat_cmp, string_bytes, refl, ap, ◌∙◌, Option, Some, None, option_map, Bor, cond, is_eq}
use Rattle.std.specs.Cmp.Lexicographic.{slice_cmp}
use Rattle.std.specs.List.{AllByRecursion}
use Rattle.std.specs.Map.{keys_of, lookup}
use Rattle.std.specs.Ordering.{match_ordering}
use Rattle.std.specs.BTreeMap.{insert_entry, is_at}
use Rattle.std.specs.String.{string_cmp}
use Rattle.nextest_tree.specs.Node.{Node, get, put, keys}
use Rattle.nextest_tree.specs.View.{tree_view, entries_view}
use Rattle.nextest_tree.specs.declared.tree.Tree.{Tree}

members-match_ordering : (o : Ordering) (a b c : List (String Global × Tree))
    → entries_view (match_ordering o a b c) ≡ match_ordering o (entries_view a) (entries_view b) (entries_view c)
members-match_ordering Less a b c = refl
members-match_ordering Equal a b c = refl
members-match_ordering Greater a b c = refl

-- what an insert into a map leaves
pub members-insert_entry : (es : List (String Global × Tree)) (k : String Global) (t : Tree)
    → entries_view (insert_entry string_cmp es k t) ≡ put (string_bytes k) (tree_view t) (entries_view es)
members-insert_entry [] k t = refl
members-insert_entry (e ∷ es) k t = members-match_ordering (string_cmp k e.0) _ _ _ ∙ rw (members-insert_entry es k t)

-- the first of keys that ascend is below one further on
pub below_middle : {V : Type 0} (first : String Global × V) (es : List (String Global × V))
    (e : String Global × V) (more : List (String Global × V))
    → AllByRecursion (λ y. string_cmp first.0 y ≡ Less) (keys_of (es ++ e ∷ more)) → string_cmp first.0 e.0 ≡ Less
below_middle first [] e more h = h.0
below_middle first (x ∷ es) e more h = below_middle first es e more h.1

found_or : (o : Ordering) (t : Tree) (rest : Option Tree) (d : Option Node) → option_map tree_view rest ≡ d
    → option_map tree_view (cond (is_eq o) (Some t) rest) ≡ match_ordering o d (Some (tree_view t)) d
found_or Less t rest d e = e
found_or Equal t rest d e = refl
found_or Greater t rest d e = e

-- what a map finds at a text
pub members-lookup : (k : List ℕ) (es : List (String Global × Tree))
    → option_map tree_view (lookup (is_at (λ x. slice_cmp nat_cmp k (string_bytes x))) es) ≡ get k (entries_view es)
members-lookup k [] = refl
members-lookup k (e ∷ es) = found_or (slice_cmp nat_cmp k (string_bytes e.0)) e.1 _ _ (members-lookup k es)

of_ref : (r : Option (Bor Tree))
    → option_map (λ x. tree_view x.now) r ≡ option_map tree_view (option_map (λ x. x.now) r)
of_ref None = refl
of_ref (Some x) = refl

-- what a table's map finds at a key
pub table_get : (r : Option (Bor Tree)) (k : List ℕ) (es : List (String Global × Tree))
    → option_map (λ x. x.now) r ≡ lookup (is_at (λ x. slice_cmp nat_cmp k (string_bytes x))) es
    → option_map (λ x. tree_view x.now) r ≡ get k (entries_view es)
table_get r k es found = of_ref r ∙ ap (option_map tree_view) found ∙ members-lookup k es

pub keys-members : (es : List (String Global × Tree)) → keys (entries_view es) ≡ map string_bytes (keys_of es)
keys-members [] = refl
keys-members (e ∷ es) = ap (λ ks. string_bytes e.0 ∷ ks) (keys-members es)
