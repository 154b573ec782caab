-- Names that are gathered in sets.
use Rattle.std.proofs.Common.{◌≡◌, List, [], ◌∷◌, ◌++◌, ◌||◌, map, filter, Bool, true, false, Ordering, Less, Equal, Greater, Some, None, refl, sym, ap, ◌∙◌, length, arith, nat_cmp}
use Rattle.std.proofs.Math.Bool.{or-false}
use Rattle.std.specs.BTreeSet.{insert_key}
use Rattle.std.specs.Cmp.Lexicographic.{slice_cmp}
use Rattle.std.specs.Ordering.{match_ordering}
use Rattle.std.specs.Str.{bytes_eq}
use Rattle.std.proofs.lemmas.List.Elements.{filter-append}
use Rattle.std.proofs.lemmas.List.Folds.{list_any-append}
use Rattle.std.proofs.lemmas.Map.Lookups.{exact_bytes}
use Rattle.std.proofs.lemmas.Slice.Eq.{bytes_eq-Decides}
use Rattle.nextest_tree.specs.Schema.{is_one_of}
use Rattle.nextest_sources.specs.Causes.{NameSet, LoadCause}
use Rattle.nextest_tables.specs.Written.{Name}
use Rattle.nextest_rules.specs.Steps.{if_some}

or_turned : (a b c : Bool) → (a || (b || c)) ≡ ((b || c) || a)
or_turned true true c = refl
or_turned true false true = refl
or_turned true false false = refl
or_turned false true c = refl
or_turned false false true = refl
or_turned false false false = refl

or_again : (a b : Bool) → (a || b) ≡ ((a || b) || a)
or_again true b = refl
or_again false true = refl
or_again false false = refl

or_assoc : (a b c : Bool) → (a || (b || c)) ≡ ((a || b) || c)
or_assoc true b c = refl
or_assoc false b c = refl

-- keys whose order is that of their texts
abbrev pub IsByText : {K : Type 0} → (K → K → Ordering) → (K → Name) → Type 0
IsByText {K} cmp text = (a b : K) → cmp a b ≡ slice_cmp nat_cmp (text a) (text b)

module _ {K : Type 0} (cmp : K → K → Ordering) (text : K → Name) (ordered : IsByText cmp text) where
  inserted_at : (o : Ordering) (x : K) (xs : List K) (k : K) (q : Name) → cmp k x ≡ o
      → is_one_of (map text (insert_key cmp xs k)) q ≡ (is_one_of (map text xs) q || bytes_eq (text k) q)
      → is_one_of (map text (match_ordering o (k ∷ x ∷ xs) (x ∷ xs) (x ∷ insert_key cmp xs k))) q
      ≡ (is_one_of (map text (x ∷ xs)) q || bytes_eq (text k) q)
  inserted_at Less x xs k q is next = or_turned (bytes_eq (text k) q) (bytes_eq (text x) q) (is_one_of (map text xs) q)
  inserted_at Equal x xs k q is next =
      let same : text k ≡ text x = exact_bytes (text k) (text x) (sym (ordered k x) ∙ is) in
      rw same (or_again (bytes_eq (text x) q) (is_one_of (map text xs) q))
  inserted_at Greater x xs k q is next =
      ap (λ b. bytes_eq (text x) q || b) next
      ∙ or_assoc (bytes_eq (text x) q) (is_one_of (map text xs) q) (bytes_eq (text k) q)

  -- the names of a set with one key more
  pub inserted : (ks : List K) (k : K) (q : Name)
      → is_one_of (map text (insert_key cmp ks k)) q ≡ (is_one_of (map text ks) q || bytes_eq (text k) q)
  inserted [] k q = or-false (bytes_eq (text k) q)
  inserted (x ∷ xs) k q = inserted_at (cmp k x) x xs k q refl (inserted xs k q)

  -- a name that passes is gathered
  pub gathered : (p : Name → Bool) (old new : List K) (key copy : K) (rest : List Name) (q : Name)
      → new ≡ insert_key cmp old copy → text copy ≡ text key → p (text key) ≡ true
      → (is_one_of (map text new) q || is_one_of (filter p rest) q)
      ≡ (is_one_of (map text old) q || is_one_of (filter p (text key ∷ rest)) q)
  gathered p old new key copy rest q is same passes =
      rw (is, inserted old copy q, same, passes)
      (sym (or_assoc (is_one_of (map text old) q) (bytes_eq (text key) q) (is_one_of (filter p rest) q)))

-- a name that does not pass is no such name
pub passed_over : (p : Name → Bool) (name : Name) (rest : List Name) → p name ≡ false
    → filter p rest ≡ filter p (name ∷ rest)
passed_over p name rest fails = rw fails refl

has_head : (name : Name) (names : List Name) → is_one_of (name ∷ names) name ≡ true
has_head name names = ap (λ b. b || is_one_of names name) ((bytes_eq-Decides name name).1 refl)

none_if : (xs ys : List Name) → ((q : Name) → is_one_of xs q ≡ is_one_of ys q) → xs ≡ [] → ys ≡ []
none_if xs [] same none = refl
none_if xs (y ∷ ys) same none = let here =
    sym (has_head y ys) ∙ sym (same y) ∙ ap (λ names. is_one_of names y) none in cc

-- names that were gathered tell nothing where there is none
pub gathered_none : (cause : NameSet → LoadCause) (found names : List Name)
    → ((q : Name) → is_one_of found q ≡ is_one_of names q)
    → found ≡ [] → if_some (λ names. cause (is_one_of names)) names ≡ None
gathered_none cause found names same none = rw (none_if found names same none) refl

some_cause : (cause : NameSet → LoadCause) (found names : List Name)
    → ((q : Name) → is_one_of found q ≡ is_one_of names q)
    → (names ≡ [] → ⊥) → if_some (λ names. cause (is_one_of names)) names ≡ Some (cause (is_one_of found))
some_cause cause found [] same some = absurd (some refl)
some_cause cause found (name ∷ names) same some = ap (λ set. Some (cause set)) (λ i q. sym (same q) i)

-- and else all of them
pub gathered_some : (cause : NameSet → LoadCause) (found names : List Name)
    → ((q : Name) → is_one_of found q ≡ is_one_of names q)
    → (found ≡ [] → ⊥) → if_some (λ names. cause (is_one_of names)) names ≡ Some (cause (is_one_of found))
gathered_some cause found names same some =
    some_cause cause found names same (λ none. some (none_if names found (λ q. sym (same q)) none))

-- a list without elements maps to one
pub none_mapped : {X Y : Type 0} (f : X → Y) (xs : List X) → length xs ≡ 0 → map f xs ≡ []
none_mapped f [] none = refl
none_mapped f (x ∷ xs) none = absurd (omega arith)

pub some_mapped : {X Y : Type 0} (f : X → Y) (xs : List X) → (length xs ≡ 0 → ⊥) → map f xs ≡ [] → ⊥
some_mapped f [] some none = some refl
some_mapped f (x ∷ xs) some none = cc

-- what is gathered of two lists, and of three
pub two_parts : (p : Name → Bool) (xs ys : List Name) (q : Name) (a b : Bool) → a ≡ is_one_of (filter p xs) q
    → b ≡ (a || is_one_of (filter p ys) q) → b ≡ is_one_of (filter p (xs ++ ys)) q
two_parts p xs ys q a b first next =
    next ∙ ap (λ x. x || is_one_of (filter p ys) q) first
    ∙ sym (ap (λ names. is_one_of names q) (filter-append p xs ys)
    ∙ list_any-append (λ name. bytes_eq name q) (filter p xs) (filter p ys))

pub three_parts : (p : Name → Bool) (xs ys zs : List Name) (q : Name) (a b c : Bool) → a ≡ is_one_of (filter p xs) q
    → b ≡ (a || is_one_of (filter p ys) q) → c ≡ (b || is_one_of (filter p zs) q)
    → c ≡ is_one_of (filter p (xs ++ ys ++ zs)) q
three_parts p xs ys zs q a b c first second third =
    two_parts p (xs ++ ys) zs q b c (two_parts p xs ys q a b first second) third
