-- A set of cycles, as the names that it shows.
use Rattle.std.proofs.Common.{◌≡◌, ◌⊎◌, inl, inr, List, [], ◌∷◌, map, Ordering, Less, Equal, Greater, Vec, String, Global, string_bytes, refl, sym, ap, ◌∙◌, nat_cmp}
use Rattle.std.specs.BTreeSet.{insert_key}
use Rattle.std.specs.Cmp.Lexicographic.{slice_cmp}
use Rattle.std.specs.List.{AllByRecursion}
use Rattle.std.specs.List.Sorted.{IsStrictlySortedBy}
use Rattle.std.specs.Ordering.{match_ordering, ordering_then}
use Rattle.std.specs.String.{string_cmp}
use Rattle.std.proofs.lemmas.Map.Lookups.{exact_bytes}
use Rattle.nextest_inheritance.specs.Names.{Name}
use Rattle.nextest_inheritance.specs.View.{names_view}
use Rattle.nextest_inheritance.proofs.Members.{In, here, there, here_at}

abbrev pub Names : Type 0
Names = Vec (String Global) Global

abbrev pub names_cmp : Names → Names → Ordering
names_cmp x y = slice_cmp string_cmp x.items y.items

items_order : (xs ys : List (String Global))
    → slice_cmp string_cmp xs ys ≡ slice_cmp (slice_cmp nat_cmp) (map string_bytes xs) (map string_bytes ys)
items_order [] [] = refl
items_order [] (y ∷ ys) = refl
items_order (x ∷ xs) [] = refl
items_order (x ∷ xs) (y ∷ ys) =
    ap (ordering_then (slice_cmp nat_cmp (string_bytes x) (string_bytes y))) (items_order xs ys)

-- the order of names is that of what they show
names_order : (x y : Names) → names_cmp x y ≡ slice_cmp (slice_cmp nat_cmp) (names_view x) (names_view y)
names_order x y = items_order x.items y.items

same_rest : (x y : Name) (xs ys : List Name) (o : Ordering) → slice_cmp nat_cmp x y ≡ o
    → ordering_then o (slice_cmp (slice_cmp nat_cmp) xs ys) ≡ Equal
    → (slice_cmp (slice_cmp nat_cmp) xs ys ≡ Equal → xs ≡ ys) → x ∷ xs ≡ y ∷ ys
same_rest x y xs ys Less is e rest = cc
same_rest x y xs ys Equal is e rest = ap (λ v. v ∷ xs) (exact_bytes x y is) ∙ ap (λ l. y ∷ l) (rest e)
same_rest x y xs ys Greater is e rest = cc

same_names : (xs ys : List Name) → slice_cmp (slice_cmp nat_cmp) xs ys ≡ Equal → xs ≡ ys
same_names [] [] is = refl
same_names [] (y ∷ ys) is = cc
same_names (x ∷ xs) [] is = cc
same_names (x ∷ xs) (y ∷ ys) is = same_rest x y xs ys (slice_cmp nat_cmp x y) refl is (same_names xs ys)

all_above : (x : Names) (ys : List Names) → AllByRecursion (λ y. names_cmp x y ≡ Less) ys
    → AllByRecursion (λ c. slice_cmp (slice_cmp nat_cmp) (names_view x) c ≡ Less) (map names_view ys)
all_above x [] all = tt
all_above x (y ∷ ys) all = (sym (names_order x y) ∙ all.0, all_above x ys all.1)

-- they ascend
pub names_ascend : (xs : List Names) → IsStrictlySortedBy names_cmp xs
    → IsStrictlySortedBy (slice_cmp (slice_cmp nat_cmp)) (map names_view xs)
unfolding IsStrictlySortedBy
names_ascend [] sorted = tt
names_ascend (x ∷ xs) sorted = (all_above x xs sorted.0, names_ascend xs sorted.1)

-- what is in a set after one more
only_at : (c : List Name) (k x : Names) (xs inner : List Names) (o : Ordering)
    → (In c (map names_view inner) → (c ≡ names_view k) ⊎ In c (map names_view xs))
    → In c (map names_view (match_ordering o (k ∷ x ∷ xs) (x ∷ xs) (x ∷ inner)))
    → (c ≡ names_view k) ⊎ In c (names_view x ∷ map names_view xs)
only_at c k x xs inner Less deeper here = inl refl
only_at c k x xs inner Less deeper (there i) = inr i
only_at c k x xs inner Equal deeper i = inr i
only_at c k x xs inner Greater deeper here = inr here
only_at c k x xs inner Greater deeper (there i) = elim (deeper i) [ inl same ↦ inl same | inr j ↦ inr (there j) ]

pub only_inserted : (c : List Name) (k : Names) (xs : List Names)
    → In c (map names_view (insert_key names_cmp xs k)) → (c ≡ names_view k) ⊎ In c (map names_view xs)
only_inserted c k [] here = inl refl
only_inserted c k [] (there i) = elim i [ ]
only_inserted c k (x ∷ xs) i = only_at c k x xs (insert_key names_cmp xs k) (names_cmp k x) (only_inserted c k xs) i

kept_at : (c : List Name) (k x : Names) (xs inner : List Names) (o : Ordering)
    → (In c (map names_view xs) → In c (map names_view inner))
    → In c (names_view x ∷ map names_view xs)
    → In c (map names_view (match_ordering o (k ∷ x ∷ xs) (x ∷ xs) (x ∷ inner)))
kept_at c k x xs inner Less deeper i = there i
kept_at c k x xs inner Equal deeper i = i
kept_at c k x xs inner Greater deeper here = here
kept_at c k x xs inner Greater deeper (there i) = there (deeper i)

pub kept_inserted : (c : List Name) (k : Names) (xs : List Names) → In c (map names_view xs)
    → In c (map names_view (insert_key names_cmp xs k))
kept_inserted c k [] i = elim i [ ]
kept_inserted c k (x ∷ xs) i = kept_at c k x xs (insert_key names_cmp xs k) (names_cmp k x) (kept_inserted c k xs) i

new_at : (k x : Names) (xs inner : List Names) (o : Ordering) → names_cmp k x ≡ o
    → In (names_view k) (map names_view inner)
    → In (names_view k) (map names_view (match_ordering o (k ∷ x ∷ xs) (x ∷ xs) (x ∷ inner)))
new_at k x xs inner Less is deeper = here
new_at k x xs inner Equal is deeper =
    here_at (names_view k) (names_view x) (map names_view xs)
    (same_names (names_view k) (names_view x) (sym (names_order k x) ∙ is))
new_at k x xs inner Greater is deeper = there deeper

pub new_inserted : (k : Names) (xs : List Names) → In (names_view k) (map names_view (insert_key names_cmp xs k))
new_inserted k [] = here
new_inserted k (x ∷ xs) = new_at k x xs (insert_key names_cmp xs k) (names_cmp k x) refl (new_inserted k xs)
