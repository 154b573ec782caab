-- A set of paths, as the keys that it shows.
use Rattle.std.proofs.Common.{◌≡◌, ℕ, List, [], ◌∷◌, Contains, Ordering, Less, Equal, Greater, Vec, Bor, Global, refl, sym, ap, ◌∙◌, nat_cmp}
use Rattle.std.specs.BTreeSet.{insert_key}
use Rattle.std.specs.Cmp.Lexicographic.{slice_cmp}
use Rattle.std.specs.List.{AllByRecursion}
use Rattle.std.specs.List.Sorted.{IsStrictlySortedBy}
use Rattle.std.specs.Ordering.{match_ordering, ordering_then}
use Rattle.std.proofs.lemmas.Cmp.{lists_total, nat_list_cmp_total}
use Rattle.std.specs.Cmp.{tied_itself}
use Rattle.std.proofs.lemmas.Map.Lookups.{exact_bytes}
use Rattle.nextest_documents.specs.Shown.{Path}
use Rattle.nextest_documents.specs.Entries.{path_cmp}
use Rattle.nextest_documents.specs.Layers.{keys_view}
use Rattle.nextest_documents.specs.Leaves.{paths_view}
use Rattle.nextest_documents.proofs.Lists.{In, here, there, here_at, contains_in, in_contained}

abbrev pub Keys : Type 0
Keys = Vec (Bor (List ℕ)) Global

abbrev pub key_cmp : Bor (List ℕ) → Bor (List ℕ) → Ordering
key_cmp x y = slice_cmp nat_cmp x.now y.now

abbrev pub keys_cmp : Keys → Keys → Ordering
keys_cmp x y = slice_cmp key_cmp x.items y.items

items_order : (xs ys : List (Bor (List ℕ))) → slice_cmp key_cmp xs ys ≡ path_cmp (keys_view xs) (keys_view ys)
items_order [] [] = refl
items_order [] (y ∷ ys) = refl
items_order (x ∷ xs) [] = refl
items_order (x ∷ xs) (y ∷ ys) = ap (ordering_then (slice_cmp nat_cmp x.now y.now)) (items_order xs ys)

same_rest : (x y : List ℕ) (xs ys : Path) (o : Ordering) → slice_cmp nat_cmp x y ≡ o
    → ordering_then o (path_cmp xs ys) ≡ Equal → (path_cmp xs ys ≡ Equal → xs ≡ ys) → x ∷ xs ≡ y ∷ ys
same_rest x y xs ys Less is e rest = cc
same_rest x y xs ys Equal is e rest = ap (λ v. v ∷ xs) (exact_bytes x y is) ∙ ap (λ l. y ∷ l) (rest e)
same_rest x y xs ys Greater is e rest = cc

pub same_path : (xs ys : Path) → path_cmp xs ys ≡ Equal → xs ≡ ys
same_path [] [] is = refl
same_path [] (y ∷ ys) is = cc
same_path (x ∷ xs) [] is = cc
same_path (x ∷ xs) (y ∷ ys) is = same_rest x y xs ys (slice_cmp nat_cmp x y) refl is (same_path xs ys)

all_above : (x : Keys) (ys : List Keys) → AllByRecursion (λ y. keys_cmp x y ≡ Less) ys
    → AllByRecursion (λ p. path_cmp (keys_view x.items) p ≡ Less) (paths_view ys)
all_above x [] all = tt
all_above x (y ∷ ys) all = (sym (items_order x.items y.items) ∙ all.0, all_above x ys all.1)

-- they ascend
pub paths_ascend : (xs : List Keys) → IsStrictlySortedBy keys_cmp xs → IsStrictlySortedBy path_cmp (paths_view xs)
unfolding IsStrictlySortedBy
paths_ascend [] sorted = tt
paths_ascend (x ∷ xs) sorted = (all_above x xs sorted.0, paths_ascend xs sorted.1)

kept_at : (p : Path) (k x : Keys) (xs inner : List Keys) (o : Ordering)
    → (In p (paths_view xs) → In p (paths_view inner))
    → In p (keys_view x.items ∷ paths_view xs)
    → In p (paths_view (match_ordering o (k ∷ x ∷ xs) (x ∷ xs) (x ∷ inner)))
kept_at p k x xs inner Less deeper i = there i
kept_at p k x xs inner Equal deeper i = i
kept_at p k x xs inner Greater deeper here = here
kept_at p k x xs inner Greater deeper (there i) = there (deeper i)

kept_in : (p : Path) (k : Keys) (xs : List Keys) → In p (paths_view xs) → In p (paths_view (insert_key keys_cmp xs k))
kept_in p k [] i = elim i [ ]
kept_in p k (x ∷ xs) i = kept_at p k x xs (insert_key keys_cmp xs k) (keys_cmp k x) (kept_in p k xs) i

new_at : (k x : Keys) (xs inner : List Keys) (o : Ordering) → keys_cmp k x ≡ o
    → In (keys_view k.items) (paths_view inner)
    → In (keys_view k.items) (paths_view (match_ordering o (k ∷ x ∷ xs) (x ∷ xs) (x ∷ inner)))
new_at k x xs inner Less is deeper = here
new_at k x xs inner Equal is deeper =
    here_at (keys_view k.items) (keys_view x.items) (paths_view xs)
    (same_path (keys_view k.items) (keys_view x.items) (sym (items_order k.items x.items) ∙ is))
new_at k x xs inner Greater is deeper = there deeper

new_in : (k : Keys) (xs : List Keys) → In (keys_view k.items) (paths_view (insert_key keys_cmp xs k))
new_in k [] = here
new_in k (x ∷ xs) = new_at k x xs (insert_key keys_cmp xs k) (keys_cmp k x) refl (new_in k xs)

-- what is in a set after one more
pub kept_inserted : (p : Path) (k : Keys) (xs new : List Keys) → new ≡ insert_key keys_cmp xs k
    → Contains (paths_view xs) p → Contains (paths_view new) p
kept_inserted p k xs new is i =
    contains_in p (paths_view new) (rw is (kept_in p k xs (in_contained p (paths_view xs) i)))

pub new_inserted : (k : Keys) (xs new : List Keys) → new ≡ insert_key keys_cmp xs k
    → Contains (paths_view new) (keys_view k.items)
new_inserted k xs new is = contains_in (keys_view k.items) (paths_view new) (rw is (new_in k xs))

-- a path beside itself
pub path_tied : (p : Path) → path_cmp p p ≡ Equal
path_tied p = tied_itself (lists_total nat_list_cmp_total) p
