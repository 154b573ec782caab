-- An entry inserted behind others whose names ascend.
use Rattle.std.proofs.Common.{◌≡◌, List, [], ◌∷◌, ◌++◌, map, String, Global, Less, Greater, nat_cmp, string_bytes, Option, Some, None, option_map, refl, sym, ap, ◌∙◌}
use Rattle.std.proofs.lemmas.Cmp.{nat_list_cmp_total}
use Rattle.std.specs.Cmp.Lexicographic.{slice_cmp}
use Rattle.std.specs.List.{AllByRecursion}
use Rattle.std.specs.List.Sorted.{IsStrictlySortedBy}
use Rattle.std.specs.Map.{keys_of}
use Rattle.std.specs.Ordering.{ordering_reverse}
use Rattle.std.specs.BTreeMap.{insert_entry}
use Rattle.std.specs.String.{string_cmp}
use Rattle.nextest_tables.specs.View.{by_name}
use Rattle.nextest_tables.specs.Written.{Name}

below_middle : {X : Type 0} (first : String Global) (es : List (String Global × X)) (e : String Global × X)
    (more : List (String Global × X))
    → AllByRecursion (λ y. string_cmp first y ≡ Less) (keys_of (es ++ e ∷ more)) → string_cmp first e.0 ≡ Less
below_middle first [] e more h = h.0
below_middle first (x ∷ es) e more h = below_middle first es e more h.1

-- a value under the next name goes last
pub goes_last : {X Y : Type 0} (done : List (String Global × X)) (e : String Global × X)
    (more : List (String Global × X)) (ys : List (String Global × Y))
    (k : String Global) (y : Y) → IsStrictlySortedBy string_cmp (keys_of (done ++ e ∷ more))
    → map string_bytes (keys_of ys) ≡ map string_bytes (keys_of done)
    → string_bytes k ≡ string_bytes e.0 → insert_entry string_cmp ys k y ≡ ys ++ (k, y) ∷ []
unfolding IsStrictlySortedBy
goes_last [] e more [] k y h same key = refl
goes_last [] e more (z ∷ ys) k y h same key = cc
goes_last (d ∷ done) e more [] k y h same key = cc
goes_last {X} {Y} (d ∷ done) e more (z ∷ ys) k y h same key =
    let name : string_bytes z.0 ≡ string_bytes d.0 = cc in
    let names : map string_bytes (keys_of ys) ≡ map string_bytes (keys_of done) = cc in
    let less : slice_cmp nat_cmp (string_bytes d.0) (string_bytes e.0) ≡ Less = below_middle d.0 done e more h.0 in
    let above : slice_cmp nat_cmp (string_bytes k) (string_bytes z.0) ≡ Greater =
    rw (name, key) (nat_list_cmp_total.antisymm (string_bytes e.0) (string_bytes d.0) ∙ ap ordering_reverse less) in
    rw above (ap (λ es. z ∷ es) (goes_last done e more ys k y h.1 names key))

last_name : {X : Type 0} (xs : List (String Global × X)) (k : String Global) (x : X)
    → map string_bytes (keys_of (xs ++ (k, x) ∷ [])) ≡ map string_bytes (keys_of xs) ++ string_bytes k ∷ []
last_name [] k x = refl
last_name (e ∷ xs) k x = ap (λ names. string_bytes e.0 ∷ names) (last_name xs k x)

-- the same names, with one more
pub names_more : {X Y : Type 0} (xs : List (String Global × X)) (ys : List (String Global × Y))
    (k l : String Global) (x : X) (y : Y)
    → map string_bytes (keys_of xs) ≡ map string_bytes (keys_of ys) → string_bytes k ≡ string_bytes l
    → map string_bytes (keys_of (xs ++ (k, x) ∷ [])) ≡ map string_bytes (keys_of (ys ++ (l, y) ∷ []))
names_more xs ys k l x y same key = last_name xs k x ∙ (λ i. same i ++ key i ∷ []) ∙ sym (last_name ys l y)

-- the values that are seen, with one more
pub seen_more : {X Y : Type 0} (f : X → Y) (xs : List (String Global × X)) (k : String Global) (x : X) (y : Y)
    (rest : List (Name × Y)) → f x ≡ y
    → by_name f (xs ++ (k, x) ∷ []) ++ rest ≡ by_name f xs ++ (string_bytes k, y) ∷ rest
seen_more f [] k x y rest h = ap (λ v. (string_bytes k, v) ∷ rest) h
seen_more f (e ∷ xs) k x y rest h = ap (λ es. (string_bytes e.0, f e.1) ∷ es) (seen_more f xs k x y rest h)

-- one text is a copy of another, if there is one
abbrev pub IsCopy : Option (String Global) → Option (String Global) → Type 0
IsCopy None None = Unit {0}
IsCopy None (Some y) = ⊥
IsCopy (Some x) None = ⊥
IsCopy (Some x) (Some y) = string_bytes y ≡ string_bytes x

-- a copy of a text, if there is one
pub same_copy : (a b : Option (String Global)) → IsCopy a b → option_map string_bytes b ≡ option_map string_bytes a
same_copy None None h = refl
same_copy None (Some y) h = absurd h
same_copy (Some x) None h = absurd h
same_copy (Some x) (Some y) h = ap (λ t. Some t) h
