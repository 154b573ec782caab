-- A default filter with no part that only a test can decide has a known value for each binary.
use Rattle.std.proofs.Common.{◌≡◌, ℕ, zero, suc, Bool, true, false, ◌||◌, List, [], ◌∷◌, ◌++◌, Option, None, Some, Result, Ok, Err, IsSome, option_map, not, unwrap_or, refl, sym, ◌∙◌, ap}
use Rattle.std.specs.List.{fold, list_any, flat_map}
use Rattle.nextest_engines.specs.Engines.{Binary, Test, without_span}
use Rattle.nextest_engines.specs.declared.queries.FiltersetKind.TheVariants.{DefaultFilter}
use Rattle.nextest_explain.specs.Engines.FilterValues.{Atom, Always, Never, AsTheDefault, NameHas, BinaryIs, Term, Filter, Subject, known_and, known_or, negated, atom_value, term_value, terms_value, filter_value}
use Rattle.nextest_explain.specs.Engines.FilterTexts.{filter_in}
use Rattle.nextest_explain.specs.Engines.Filters.{binary_subject, test_subject, filter_holds_binary, filter_matches, filter_read, read_for, filter_leaves, term_leaves, atom_leaves, is_default_atom, is_default_term, asks_default, default_in_default}

-- What is known stays known behind `not`s.
known_not : (value : Option Bool) → IsSome value → IsSome (option_map not value)
known_not None is = is
known_not (Some b) is = refl

known_nots : (n : ℕ) (value : Option Bool) → IsSome value → IsSome (negated n value)
known_nots zero value is = is
known_nots (suc n) value is = known_not (negated n value) (known_nots n value is)

-- What joins known values is known.
known_and_known : (left right : Option Bool) → IsSome left → IsSome right
    → IsSome (known_and left right)
known_and_known None right is also = absurd (cc)
known_and_known (Some false) right is also = refl
known_and_known (Some true) right is also = also

known_or_known : (left right : Option Bool) → IsSome left → IsSome right
    → IsSome (known_or left right)
known_or_known None right is also = absurd (cc)
known_or_known (Some true) right is also = refl
known_or_known (Some false) right is also = also

-- Nothing is joined to nothing alone.
front_nil : {X : Type 0} (xs ys : List X) → xs ++ ys ≡ [] → xs ≡ []
front_nil [] ys e = refl
front_nil (x ∷ xs) ys e = absurd (cc)

back_nil : {X : Type 0} (xs ys : List X) → xs ++ ys ≡ [] → ys ≡ []
back_nil [] ys e = e
back_nil (x ∷ xs) ys e = absurd (cc)

front_false : (a b : Bool) → (a || b) ≡ false → a ≡ false
front_false true b e = e
front_false false b e = refl

back_false : (a b : Bool) → (a || b) ≡ false → b ≡ false
back_false true b e = absurd (cc)
back_false false b e = e

-- An atom that needs neither the test nor the default filter is known.
known_atom : (s : Subject) (default : Option Bool) (atom : Atom) → atom_leaves atom ≡ []
    → is_default_atom atom ≡ false → IsSome (atom_value s default atom)
known_atom s default Always none other = refl
known_atom s default Never none other = refl
known_atom s default AsTheDefault none other = absurd (cc)
known_atom s default (NameHas part) none other = absurd (cc)
known_atom s default (BinaryIs id) none other = refl

-- So are terms and lists of terms.
known_terms : (s : Subject) (default : Option Bool) (terms : List Term) (value : Option Bool)
    → flat_map term_leaves terms ≡ [] → list_any is_default_term terms ≡ false → IsSome value
    → IsSome (fold (λ known t. known_and known (term_value s default t)) value terms)
known_terms s default [] value none other is = is
known_terms s default (t ∷ terms) value none other is =
    let leaves = flat_map term_leaves terms in
    let others = list_any is_default_term terms in
    let first = known_atom s default t.atom (front_nil (term_leaves t) leaves none)
    (front_false (is_default_term t) others other) in
    let nots = known_nots t.negations (atom_value s default t.atom) first in
    known_terms s default terms _ (back_nil (term_leaves t) leaves none)
    (back_false (is_default_term t) others other)
    (known_and_known value (term_value s default t) is nots)

known_lists : (s : Subject) (default : Option Bool) (filter : Filter) (value : Option Bool)
    → filter_leaves filter ≡ [] → asks_default filter ≡ false → IsSome value
    → IsSome (fold (λ known terms. known_or known (terms_value s default terms)) value filter)
known_lists s default [] value none other is = is
known_lists s default (terms ∷ filter) value none other is =
    let leaves = flat_map term_leaves terms in
    let others = list_any is_default_term terms in
    let first = known_terms s default terms (Some true)
    (front_nil leaves (filter_leaves filter) none)
    (front_false others (asks_default filter) other) refl in
    known_lists s default filter _ (back_nil leaves (filter_leaves filter) none)
    (back_false others (asks_default filter) other)
    (known_or_known value (terms_value s default terms) is first)

-- A default filter does not use the default filter.
asks_nothing : (asks : Bool) (text : List ℕ) (read filter : Filter) → asks_default read ≡ asks
    → read_for DefaultFilter text (Ok read) ≡ Ok filter → asks_default filter ≡ false
asks_nothing true text read filter e is =
    absurd (let clash : Err (without_span (default_in_default text)) ≡ Ok filter = rw e at is in cc)
asks_nothing false text read filter e is =
    let same : Ok read ≡ Ok filter = rw e at is in
    let it : read ≡ filter = cc in
    ap asks_default (sym it) ∙ e

read_asks_nothing : (text : List ℕ) (found : Result Filter (List ℕ)) (filter : Filter)
    → read_for DefaultFilter text found ≡ Ok filter → asks_default filter ≡ false
read_asks_nothing text (Err piece) filter is = absurd (cc)
read_asks_nothing text (Ok read) filter is =
    asks_nothing (asks_default read) text read filter refl is

pub default_filter_decides : (text : List ℕ) (filter : Filter)
    → filter_read DefaultFilter text ≡ Ok filter → filter_leaves filter ≡ []
    → (binary : Binary) (default : Filter) → IsSome (filter_holds_binary filter binary default)
default_filter_decides text filter read none binary default =
    known_lists (binary_subject binary) _ filter (Some false) none
    (read_asks_nothing text (filter_in text) filter read) refl

-- ---- what is known of a binary is known of its tests

-- One value knows no more than another.
abbrev Below : Option Bool → Option Bool → Type 0
Below x y = (b : Bool) → x ≡ Some b → y ≡ Some b

not_below : (x y : Option Bool) → Below x y → Below (option_map not x) (option_map not y)
not_below None y h b e = absurd (cc)
not_below (Some c) y h b e = ap (option_map not) (h c refl) ∙ e

nots_below : (n : ℕ) (x y : Option Bool) → Below x y → Below (negated n x) (negated n y)
nots_below zero x y h = h
nots_below (suc n) x y h = not_below (negated n x) (negated n y) (nots_below n x y h)

and_false : (u : Option Bool) (b : Bool) → Some false ≡ Some b → known_and u (Some false) ≡ Some b
and_false (Some false) b e = e
and_false (Some true) b e = e
and_false None b e = e

or_true : (u : Option Bool) (b : Bool) → Some true ≡ Some b → known_or u (Some true) ≡ Some b
or_true (Some false) b e = e
or_true (Some true) b e = e
or_true None b e = e

and_below : (x y u v : Option Bool) → Below x u → Below y v → Below (known_and x y) (known_and u v)
and_below (Some false) y u v h k b e = rw (h false refl) e
and_below (Some true) y u v h k b e = rw (h true refl) (k b e)
and_below None (Some false) u v h k b e = rw (k false refl) (and_false u b e)
and_below None (Some true) u v h k b e = absurd (cc)
and_below None None u v h k b e = absurd (cc)

or_below : (x y u v : Option Bool) → Below x u → Below y v → Below (known_or x y) (known_or u v)
or_below (Some true) y u v h k b e = rw (h true refl) e
or_below (Some false) y u v h k b e = rw (h false refl) (k b e)
or_below None (Some true) u v h k b e = rw (k true refl) (or_true u b e)
or_below None (Some false) u v h k b e = absurd (cc)
or_below None None u v h k b e = absurd (cc)

module _ (test : Test) (d e : Option Bool) (below : Below d e) where
  atom_below : (a : Atom)
      → Below (atom_value (binary_subject test.binary) d a) (atom_value (test_subject test) e a)
  atom_below Always b is = is
  atom_below Never b is = is
  atom_below AsTheDefault b is = below b is
  atom_below (NameHas part) b is = absurd (cc)
  atom_below (BinaryIs id) b is = is

  term_below : (t : Term)
      → Below (term_value (binary_subject test.binary) d t) (term_value (test_subject test) e t)
  term_below t = nots_below t.negations _ _ (atom_below t.atom)

  terms_below : (terms : List Term) (x y : Option Bool) → Below x y
      → Below (fold (λ known t. known_and known (term_value (binary_subject test.binary) d t)) x terms)
      (fold (λ known t. known_and known (term_value (test_subject test) e t)) y terms)
  terms_below [] x y h = h
  terms_below (t ∷ terms) x y h = terms_below terms _ _ (and_below x _ y _ h (term_below t))

  filter_below : (filter : Filter) (x y : Option Bool) → Below x y
      → Below (fold (λ known terms. known_or known (terms_value (binary_subject test.binary) d terms)) x filter)
      (fold (λ known terms. known_or known (terms_value (test_subject test) e terms)) y filter)
  filter_below [] x y h = h
  filter_below (terms ∷ filter) x y h =
      filter_below filter _ _ (or_below x _ y _ h (terms_below terms (Some true) (Some true) (λ b is. is)))

-- What a filter matches of a binary, it matches of each test of the binary.
pub filters_speak : (m : Filter) (test : Test) (default : Filter) (b : Bool)
    → filter_holds_binary m test.binary default ≡ Some b → filter_matches m test default ≡ b
filters_speak m test default b is =
    let alone = filter_below test (Some true) (Some true) (λ b is. is) default (Some false) (Some false) (λ b is. is) in
    ap (λ found. unwrap_or found false)
    (filter_below test (filter_value (binary_subject test.binary) (Some true) default)
    (filter_value (test_subject test) (Some true) default) alone m (Some false) (Some false) (λ b is. is) b is)
