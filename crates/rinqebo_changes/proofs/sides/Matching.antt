-- Tests of two lists that are looked for in each other.
use Rattle.std.proofs.Common.{◌≡◌, ◌∙◌, ℕ, ◌+◌, ◌<◌, ◌&&◌, ◌||◌, Bool, true, false, cond, not, List, [], ◌∷◌, ◌++◌, None, Some, length, map, filter, flat_map, take, get_or, append_assoc, refl, sym, ap, subst, arith, zero, suc}
use Rattle.std.proofs.lemmas.List.{append-nil, map-append}
use Rattle.std.proofs.lemmas.List.Elements.{All-append, All-cons, All-nil, Contains-append_left, Contains-append_right, filter-append}
use Rattle.std.proofs.lemmas.List.Folds.{list_any_at}
use Rattle.std.proofs.lemmas.Grind.{flat_map-append}
use Rattle.std.proofs.lemmas.Option.{slice_get-get_or}
use Rattle.std.specs.List.{Contains}
use Rattle.std.specs.Prelude.{bytes_eq, slice_get, string_bytes}
use Rattle.filter_inputs.specs.Lists.Lists.{ListTest, test_of, tests_in}
use Rattle.filter_inputs.specs.Lists.ListView.{binary_view, case_view, listed_view}
use Rattle.filter_inputs.specs.declared.lists.list.ListedBinary.{ListedBinary}
use Rattle.filter_inputs.specs.declared.lists.list.TestCase.{TestCase}
use Rattle.rinqebo_changes.specs.Sides.Matched.{same_test, is_in, tests_of, TestPair, IsFound, IsPairOf, HasPair, ArePairs}
use Rattle.rinqebo_changes.proofs.sides.Zips.{taken_read}

-- ---- elements

-- what is at a place of a list is at that place of what is made of it
viewed_at : {X Y : Type 0} (f : X → Y) (xs : List X) (i : ℕ) (x : X) → slice_get xs i ≡ Some x → slice_get (map f xs) i ≡ Some (f x)
viewed_at f [] i x here = absurd (let none : None ≡ Some x = here in cc)
viewed_at f (y ∷ ys) zero x here = let same : y ≡ x = cc in ap (λ z. Some (f z)) same
viewed_at f (y ∷ ys) (suc i) x here = viewed_at f ys i x here

-- what is at a place of a list is among what is made of it
read_at : {X Y : Type 0} (f : X → Y) (xs : List X) (i : ℕ) (x : X) → slice_get xs i ≡ Some x → Contains (map f xs) (f x)
read_at f [] i x here = absurd (let none : None ≡ Some x = here in cc)
read_at f (y ∷ ys) zero x here =
    let same : y ≡ x = cc in Contains-append_left (f y ∷ []) (map f ys) (f x) (0, omega arith, ap f same)
read_at f (y ∷ ys) (suc i) x here = Contains-append_right (f y ∷ []) (map f ys) (f x) (read_at f ys i x here)

-- and what it has is among what all have
flat_at : {X Y : Type 0} (f : X → List Y) (xs : List X) (i : ℕ) (x : X) (y : Y) → slice_get xs i ≡ Some x
    → Contains (f x) y → Contains (flat_map f xs) y
flat_at f [] i x y here has = absurd (let none : None ≡ Some x = here in cc)
flat_at f (z ∷ zs) zero x y here has =
    let same : z ≡ x = cc in Contains-append_left (f z) (flat_map f zs) y (subst (λ w. Contains (f w) y) (sym same) has)
flat_at f (z ∷ zs) (suc i) x y here has = Contains-append_right (f z) (flat_map f zs) y (flat_at f zs i x y here has)

-- ---- tests of binaries

-- a test of a binary, as it is read
abbrev pub read_test : ListedBinary → TestCase → ListTest
read_test b case = test_of (binary_view b) (case_view case)

-- a case of a binary is one of its tests
case_in : (b : ListedBinary) (i : ℕ) (case : TestCase) → slice_get b.tests.items i ≡ Some case
    → Contains (tests_in (listed_view b)) (read_test b case)
case_in b i case here =
    read_at (test_of (binary_view b)) (map case_view b.tests.items) i (case_view case)
    (viewed_at case_view b.tests.items i case here)

pub case_there : (b : ListedBinary) (cases : List TestCase) (i : ℕ) (case d : TestCase) → cases ≡ b.tests.items
    → i < length cases → case ≡ get_or cases i d → Contains (tests_in (listed_view b)) (read_test b case)
case_there b cases i case d same lt is =
    case_in b i case
    (subst (λ cs. slice_get cs i ≡ Some case) same (slice_get-get_or cases i d lt ∙ ap Some (sym is)))

-- what a binary of a list has is in the list
binary_in : (bs : List ListedBinary) (i : ℕ) (b : ListedBinary) (t : ListTest) → slice_get bs i ≡ Some b
    → Contains (tests_in (listed_view b)) t → Contains (tests_of bs) t
binary_in bs i b t here has =
    flat_at tests_in (map listed_view bs) i (listed_view b) t (viewed_at listed_view bs i b here) has

pub binary_there : (bs : List ListedBinary) (i : ℕ) (b d : ListedBinary) (t : ListTest) → i < length bs
    → b ≡ get_or bs i d → Contains (tests_in (listed_view b)) t → Contains (tests_of bs) t
binary_there bs i b d t lt is has = binary_in bs i b t (slice_get-get_or bs i d lt ∙ ap Some (sym is)) has

-- a test that is found in a binary of a list is found in the list
pub binary_found : (bs : List ListedBinary) (i : ℕ) (b d : ListedBinary) (t one : ListTest) → i < length bs
    → b ≡ get_or bs i d → IsFound (tests_in (listed_view b)) t one → IsFound (tests_of bs) t one
binary_found bs i b d t one lt is found =
    record { here = binary_there bs i b d one lt is found.here; same = found.same }

-- the test at a place of a list is in it
pub test_there : (bs : List ListedBinary) (i j : ℕ) (b : ListedBinary) (case : TestCase) → slice_get bs i ≡ Some b
    → slice_get b.tests.items j ≡ Some case → Contains (tests_of bs) (read_test b case)
test_there bs i j b case here there = binary_in bs i b (read_test b case) here (case_in b j case there)

-- a binary of another id does not have a test
pub not_in_other : (b : ListedBinary) (t : ListTest) → bytes_eq (string_bytes b.id) t.test.binary.binary_id ≡ false
    → is_in (tests_in (listed_view b)) t ≡ false
not_in_other b t other = none b.tests.items
  where
    none : (cases : List TestCase) → is_in (map (test_of (binary_view b)) (map case_view cases)) t ≡ false
    none [] = refl
    none (case ∷ cases) =
        (λ i. (other i && bytes_eq (string_bytes case.name) t.test.name)
        || is_in (map (test_of (binary_view b)) (map case_view cases)) t)
        ∙ none cases

-- the tests of one more case
pub cases_taken : (b : ListedBinary) (cases : List TestCase) (i : ℕ) (case d : TestCase) → cases ≡ b.tests.items
    → i < length cases → case ≡ get_or cases i d
    → map (test_of (binary_view b)) (map case_view (take (i + 1) b.tests.items))
    ≡ map (test_of (binary_view b)) (map case_view (take i b.tests.items)) ++ read_test b case ∷ []
cases_taken b cases i case d same lt is =
    let below = subst (λ cs. i < length cs) same lt in
    let here = subst (λ cs. case ≡ get_or cs i d) same is in
    ap (map (test_of (binary_view b))) (taken_read case_view b.tests.items i case d below here)
    ∙ map-append (test_of (binary_view b)) (map case_view (take i b.tests.items)) (case_view case ∷ [])

-- the tests of one more binary
pub tests_taken : (bs : List ListedBinary) (i : ℕ) (b d : ListedBinary) → i < length bs → b ≡ get_or bs i d
    → tests_of (take (i + 1) bs) ≡ tests_of (take i bs) ++ tests_in (listed_view b)
tests_taken bs i b d lt is =
    ap (flat_map tests_in) (taken_read listed_view bs i b d lt is)
    ∙ flat_map-append tests_in (map listed_view (take i bs)) (listed_view b ∷ [])
    ∙ ap (λ ts. tests_of (take i bs) ++ ts) (append-nil (tests_in (listed_view b)))

-- ---- tests of one list alone

-- the tests of one more case are left out or put in
pub cases_alone : (others : List ListTest) (b : ListedBinary) (cases : List TestCase) (i : ℕ) (case d : TestCase)
    → cases ≡ b.tests.items → i < length cases → case ≡ get_or cases i d → (first old new : List ListTest)
    → old ≡ first ++ filter (λ t. not (is_in others t)) (map (test_of (binary_view b)) (map case_view (take i b.tests.items)))
    → new ≡ old ++ filter (λ t. not (is_in others t)) (read_test b case ∷ [])
    → new ≡ first ++ filter (λ t. not (is_in others t))
    (map (test_of (binary_view b)) (map case_view (take (i + 1) b.tests.items)))
cases_alone others b cases i case d same lt is first old new before then =
    let p : ListTest → Bool = λ t. not (is_in others t) in
    let so_far = map (test_of (binary_view b)) (map case_view (take i b.tests.items)) in
    let one = read_test b case ∷ [] in
    let taken = cases_taken b cases i case d same lt is in
    then ∙ ap (λ xs. xs ++ filter p one) before ∙ append_assoc first (filter p so_far) (filter p one)
    ∙ ap (λ xs. first ++ xs) (sym (filter-append p so_far one) ∙ ap (filter p) (sym taken))

-- ---- pairs

-- a test of a pair is in the left list
has_test : (from : List ListTest) (test : ListTest) (pair : TestPair) → HasPair from test pair → is_in from test ≡ true
has_test from test pair has =
    let here = has.is_pair.here in
    list_any_at (λ t. same_test t test) from here.0 pair.from here.1
    (ap (λ t. same_test t test) here.2 ∙ ap (same_test pair.from) (sym has.right) ∙ has.is_pair.same)

-- no pairs
pub pairs_none : (from : List ListTest) → ArePairs from [] []
pairs_none from = record { rights = refl; each = All-nil (IsPairOf from) }

-- a test that the left list does not have has no pair
pub pair_lacking : (from : List ListTest) (test : ListTest) → is_in from test ≡ false → ArePairs from (test ∷ []) []
pair_lacking from test none = record {
  rights = ap (λ b. cond b (test ∷ []) []) (sym none);
  each = All-nil (IsPairOf from);
}

-- the pair of a test
pub pair_one : (from : List ListTest) (test : ListTest) (pair : TestPair) → HasPair from test pair
    → ArePairs from (test ∷ []) (pair ∷ [])
pair_one from test pair has = record {
  rights = (λ i. has.right i ∷ []) ∙ ap (λ b. cond b (test ∷ []) []) (sym (has_test from test pair has));
  each = All-cons (IsPairOf from) pair [] has.is_pair (All-nil (IsPairOf from));
}

-- the pairs of tests behind others
pub pairs_behind : (from xs ys : List ListTest) (ps qs : List TestPair) → ArePairs from xs ps → ArePairs from ys qs
    → ArePairs from (xs ++ ys) (ps ++ qs)
pairs_behind from xs ys ps qs one two = record {
  rights = map-append (λ (p : TestPair). p.to) ps qs ∙ (λ i. one.rights i ++ two.rights i)
      ∙ sym (filter-append (is_in from) xs ys);
  each = All-append (IsPairOf from) ps qs one.each two.each;
}
