-- What changes for tests between swapped sides.
use Rattle.std.proofs.Common.{◌≡◌, ◌∙◌, ◌⊎◌, inl, inr, zero, suc, ◌&&◌, Bool, true, false, cond, List, [], ◌∷◌, Option, None, Some, Contains, filter, map, bytes_eq, string_bytes, refl, sym, ap, subst, arith}
use Rattle.std.specs.List.{All, AllByRecursion, AllZip, filter_map}
use Rattle.std.specs.Cmp.Lexicographic.{bytes_decides}
use Rattle.std.proofs.lemmas.List.Elements.{All-contains, All-contains_itself, All-filter, All-from_recursion, Contains-append_cases, Contains-append_left, Contains-append_right, recursion_from_All}
use Rattle.std.proofs.lemmas.List.Folds.{list_any_at}
use Rattle.filter_inputs.specs.Lists.Lists.{ListTest}
use Rattle.rinqebo_report.specs.declared.report.TestId.{TestId}
use Rattle.rinqebo_report.specs.declared.report.TestRows.{TestRows}
use Rattle.rinqebo_changes.specs.Changes.{changed_rows, rows_in}
use Rattle.rinqebo_changes.specs.Sides.Matched.{is_in, same_test, ArePairs, IsPairOf, TestPair}
use Rattle.rinqebo_changes.specs.Sides.Own.{NamesOnce}
use Rattle.rinqebo_changes.specs.declared.change.RowChange.{RowChange}
use Rattle.rinqebo_changes.specs.declared.change.SideRow.{SideRow}
use Rattle.rinqebo_changes.specs.declared.change.TestChanges.{TestChanges}
use Rattle.rinqebo_diff.specs.Compared.{AreCompared, IsComparedBy}
use Rattle.rinqebo_diff.specs.TurnedSides.{HasTurned, IsTurnedAt}
use Rattle.rinqebo_diff.proofs.TurnedRows.{turned_from}

-- A report of a test has its names.
pub record IsNamed (t : ListTest) (rows : TestRows) : Type 0 where
  pub binary : string_bytes rows.binary ≡ t.test.binary.binary_id
  pub name : string_bytes rows.name ≡ t.test.name

-- What a side reports of a test is alike each time.
pub record IsSteady (reports : ListTest → TestRows → Type 0) (runs : Bool) (Alike : SideRow → SideRow → Type 0)
    : Type 0 where
  pub named : (t : ListTest) (rows : TestRows) → reports t rows → IsNamed t rows
  pub twice : (t : ListTest) (a b : TestRows) → reports t a → reports t b
      → AllZip Alike (rows_in runs a) (rows_in runs b)

-- ---- elements

alone : {X : Type 0} (x y : X) → Contains (x ∷ []) y → x ≡ y
alone x y (zero, within, is) = is
alone x y (suc n, within, is) = absurd (omega (arith, within))

pub first_or_other : {X : Type 0} (x y : X) (xs : List X) → Contains (x ∷ xs) y → (x ≡ y) ⊎ Contains xs y
first_or_other x y xs has = elim (Contains-append_cases (x ∷ []) xs y has) [ inl h ↦ inl (alone x y h) | inr h ↦ inr h ]

pub first_one : {X : Type 0} (x y : X) (xs : List X) → x ≡ y → Contains (x ∷ xs) y
first_one x y xs same = Contains-append_left (x ∷ []) xs y (0, omega arith, same)

pub later_one : {X : Type 0} (x y : X) (xs : List X) → Contains xs y → Contains (x ∷ xs) y
later_one x y xs has = Contains-append_right (x ∷ []) xs y has

keep_first : {X : Type 0} (b : Bool) (x y : X) (xs : List X) → b ≡ true → x ≡ y → Contains (cond b (x ∷ xs) xs) y
keep_first true x y xs is same = first_one x y xs same
keep_first false x y xs is same = absurd (cc)

keep_later : {X : Type 0} (b : Bool) (x y : X) (xs : List X) → Contains xs y → Contains (cond b (x ∷ xs) xs) y
keep_later true x y xs has = later_one x y xs has
keep_later false x y xs has = has

-- an element that passes a test is among those that do
filtered : {X : Type 0} (p : X → Bool) (xs : List X) (y : X) → Contains xs y → p y ≡ true → Contains (filter p xs) y
filtered p [] y has is = absurd (omega (arith, has.1))
filtered p (x ∷ xs) y has is = elim (first_or_other x y xs has) [
  | inl same ↦ keep_first (p x) x y (filter p xs) (ap p same ∙ is) same
  | inr rest ↦ keep_later (p x) x y (filter p xs) (filtered p xs y rest is)
]

-- what is kept of a result
first_kept : {X : Type 0} (r : Option X) (rs : List (Option X)) (x : X) → r ≡ Some x
    → Contains (filter_map (λ q. q) (r ∷ rs)) x
first_kept None rs x is = absurd (cc)
first_kept (Some y) rs x is = let same : y ≡ x = cc in first_one y x (filter_map (λ q. q) rs) same

later_kept : {X : Type 0} (r : Option X) (rs : List (Option X)) (x : X) → Contains (filter_map (λ q. q) rs) x
    → Contains (filter_map (λ q. q) (r ∷ rs)) x
later_kept None rs x has = has
later_kept (Some y) rs x has = later_one y x (filter_map (λ q. q) rs) has

none_beside : {A B : Type 0} (R : A → B → Type 0) (xs : List A) → AllZip R xs [] → xs ≡ []
none_beside R [] all = refl
none_beside R (x ∷ xs) all = absurd all

-- ---- tests with the same names

both_true : (p q : Bool) → (p && q) ≡ true → (p ≡ true) × (q ≡ true)
both_true true q is = (refl, is)
both_true false q is = absurd (cc)

true_both : (p q : Bool) → p ≡ true → q ≡ true → (p && q) ≡ true
true_both true q one two = two
true_both false q one two = absurd (cc)

same_names : (a b : ListTest) → same_test a b ≡ true
    → (a.test.binary.binary_id ≡ b.test.binary.binary_id) × (a.test.name ≡ b.test.name)
same_names a b same =
    let both = both_true (bytes_eq a.test.binary.binary_id b.test.binary.binary_id)
    (bytes_eq a.test.name b.test.name) same in (
      (bytes_decides a.test.binary.binary_id b.test.binary.binary_id).0 both.0,
      (bytes_decides a.test.name b.test.name).0 both.1,
    )

by_names : (a b : ListTest) → a.test.binary.binary_id ≡ b.test.binary.binary_id → a.test.name ≡ b.test.name
    → same_test a b ≡ true
by_names a b binary name =
    true_both (bytes_eq a.test.binary.binary_id b.test.binary.binary_id) (bytes_eq a.test.name b.test.name)
    ((bytes_decides a.test.binary.binary_id b.test.binary.binary_id).1 binary)
    ((bytes_decides a.test.name b.test.name).1 name)

same_back : (a b : ListTest) → same_test a b ≡ true → same_test b a ≡ true
same_back a b same = let names = same_names a b same in by_names b a (sym names.0) (sym names.1)

same_through : (a b c : ListTest) → same_test a b ≡ true → same_test b c ≡ true → same_test a c ≡ true
same_through a b c one two =
    let first = same_names a b one in
    let second = same_names b c two in by_names a c (first.0 ∙ second.0) (first.1 ∙ second.1)

-- a test is in a list that has one of its names
found_in : (tests : List ListTest) (one test : ListTest) → Contains tests one → same_test one test ≡ true
    → is_in tests test ≡ true
found_in tests one test has same =
    list_any_at (λ t. same_test t test) tests has.0 one has.1 (ap (λ t. same_test t test) has.2 ∙ same)

-- ---- both ways

module _ (left right : ListTest → TestRows → Type 0) (runs : Bool) (AreLefts AreRights : SideRow → SideRow → Type 0)
    (changes changes_back : SideRow → SideRow → Bool)
    (alike : (l r m k : SideRow) → AreLefts l k → AreRights r m → changes_back m k ≡ changes l r)
    (lefts : IsSteady left runs AreLefts) (rights : IsSteady right runs AreRights) where
  -- what changes for a pair, and what does the other way
  abbrev There : TestPair → Option TestChanges → Type 0
  There = IsComparedBy left right changes runs

  abbrev Back : TestPair → Option TestChanges → Type 0
  Back = IsComparedBy right left changes_back runs

  -- a change is one of another one's rows, from the other side
  abbrev IsAt : RowChange → RowChange → Type 0
  IsAt = IsTurnedAt AreLefts AreRights

  -- among what changes for tests is what changes for one of them the other way
  abbrev IsBack : List TestChanges → TestChanges → Type 0
  IsBack = HasTurned AreLefts AreRights

  -- A pair has a test of the left list on its right side, and is compared.
  record FoundBack (tests : List ListTest) (all : List TestChanges) (test : ListTest) : Type 0 where
    pair : TestPair
    is : pair.to ≡ test
    are : IsPairOf tests pair
    result : Option TestChanges
    compared : Back pair result
    kept : (c : TestChanges) → result ≡ Some c → Contains all c

  found_back : (tests : List ListTest) (all : List TestChanges) (test : ListTest) (pairs : List TestPair)
      (results : List (Option TestChanges)) → AllByRecursion (IsPairOf tests) pairs → AllZip Back pairs results
      → ((c : TestChanges) → Contains (filter_map (λ q. q) results) c → Contains all c)
      → Contains (map (λ pair. pair.to) pairs) test → FoundBack tests all test
  found_back tests all test [] results own compared into has = absurd (omega (arith, has.1))
  found_back tests all test (p ∷ ps) [] own compared into has = absurd compared
  found_back tests all test (p ∷ ps) (r ∷ rs) own compared into has =
      elim (first_or_other p.to test (map (λ (pair : TestPair). pair.to) ps) has) [
        | inl same ↦ record {
          pair = p;
          is = same;
          are = own.0;
          result = r;
          compared = compared.0;
          kept = λ c is. into c (first_kept r rs c is);
        }
        | inr rest ↦ found_back tests all test ps rs own.1 compared.1 (λ c h. into c (later_kept r rs c h)) rest
      ]

  -- the names of what changes for a test are those of the test
  there_named : (pair : TestPair) (changed : TestChanges) → There pair (Some changed)
      → (string_bytes changed.test.binary ≡ pair.to.test.binary.binary_id)
      × (string_bytes changed.test.name ≡ pair.to.test.name)
  there_named pair changed by =
      let named = rights.named pair.to by.after by.right_reports in (
        ap (λ (id : TestId). string_bytes id.binary) by.verdict.test ∙ named.binary,
        ap (λ (id : TestId). string_bytes id.name) by.verdict.test ∙ named.name,
      )

  back_named : (pair : TestPair) (changed : TestChanges) → Back pair (Some changed)
      → (string_bytes changed.test.binary ≡ pair.to.test.binary.binary_id)
      × (string_bytes changed.test.name ≡ pair.to.test.name)
  back_named pair changed by =
      let named = lefts.named pair.to by.after by.right_reports in (
        ap (λ (id : TestId). string_bytes id.binary) by.verdict.test ∙ named.binary,
        ap (λ (id : TestId). string_bytes id.name) by.verdict.test ∙ named.name,
      )

  -- the rows that change of a pair are those that do the other way
  rows_turned : (pair back : TestPair) (one other : Option TestChanges) → back.to ≡ pair.from → back.from ≡ pair.to
      → (by : There pair one) (are : Back back other)
      → AllZip IsAt (changed_rows changes (rows_in runs by.before) (rows_in runs by.after))
      (changed_rows changes_back (rows_in runs are.before) (rows_in runs are.after))
  rows_turned pair back one other same met by are =
      turned_from AreLefts AreRights changes changes_back alike 0 (rows_in runs by.before) (rows_in runs by.after)
      (rows_in runs are.before) (rows_in runs are.after)
      (lefts.twice pair.from by.before are.after by.left_reports (subst (λ t. left t are.after) same are.right_reports))
      (rights.twice pair.to by.after are.before by.right_reports (subst (λ t. right t are.before) met are.left_reports))

  turned_by : (all : List TestChanges) (pair back : TestPair) (changed : TestChanges) (other : Option TestChanges)
      → same_test pair.from pair.to ≡ true → back.to ≡ pair.from → back.from ≡ pair.to → There pair (Some changed)
      → Back back other → ((c : TestChanges) → other ≡ Some c → Contains all c) → IsBack all changed
  turned_by all pair back changed None names same met by are kept =
      let turned = rows_turned pair back (Some changed) None same met by are in
      let rows = changed_rows changes (rows_in runs by.before) (rows_in runs by.after) in
      absurd (by.verdict.some (by.verdict.rows
      ∙ none_beside IsAt rows (subst (AllZip IsAt rows) are.verdict turned)))
  turned_by all pair back changed (Some other) names same met by are kept =
      let turned = rows_turned pair back (Some changed) (Some other) same met by are in
      let rows = changed_rows changes (rows_in runs by.before) (rows_in runs by.after) in
      let here = there_named pair changed by in
      let there = back_named back other are in
      let named = same_names pair.from pair.to names in record {
        other = other;
        there = kept other refl;
        turned = record {
          test = record {
            binary = here.0 ∙ sym named.0 ∙ sym (ap (λ (t : ListTest). t.test.binary.binary_id) same) ∙ sym there.0;
            name = here.1 ∙ sym named.1 ∙ sym (ap (λ (t : ListTest). t.test.name) same) ∙ sym there.1;
          };
          rows = subst (λ xs. AllZip IsAt xs other.rows.items) (sym by.verdict.rows)
              (subst (AllZip IsAt rows) (sym are.verdict.rows) turned);
        };
      }

  -- what changes for a test that both sides have changes the other way
  turned_one : (tests : List ListTest) (all : List TestChanges) (pair : TestPair) (changed : TestChanges)
      → NamesOnce tests → Contains tests pair.to → same_test pair.from pair.to ≡ true → There pair (Some changed)
      → FoundBack tests all pair.from → IsBack all changed
  turned_one tests all pair changed once has names by found =
      let same : same_test found.pair.from pair.to ≡ true =
      same_through found.pair.from found.pair.to pair.to found.are.same
      (ap (λ t. same_test t pair.to) found.is ∙ names) in
      turned_by all pair found.pair changed found.result names found.is
      (once.one found.pair.from pair.to found.are.here has same) by found.compared found.kept

  next_turned : (all : List TestChanges) (result : Option TestChanges) (results : List (Option TestChanges))
      → ((c : TestChanges) → result ≡ Some c → IsBack all c)
      → AllByRecursion (IsBack all) (filter_map (λ q. q) results)
      → AllByRecursion (IsBack all) (filter_map (λ q. q) (result ∷ results))
  next_turned all None results one rest = rest
  next_turned all (Some c) results one rest = (one c refl, rest)

  each_turned : (front back : List ListTest) (all : List TestChanges) → NamesOnce back
      → ((test : ListTest) → Contains front test → is_in back test ≡ true → FoundBack back all test)
      → (pairs : List TestPair) (results : List (Option TestChanges)) → AllByRecursion (IsPairOf front) pairs
      → AllByRecursion (Contains back) (map (λ pair. pair.to) pairs) → AllZip There pairs results
      → AllByRecursion (IsBack all) (filter_map (λ q. q) results)
  each_turned front back all once found [] [] own has compared = tt
  each_turned front back all once found [] (r ∷ rs) own has compared = absurd compared
  each_turned front back all once found (p ∷ ps) [] own has compared = absurd compared
  each_turned front back all once found (p ∷ ps) (r ∷ rs) own has compared =
      next_turned all r rs
      (λ c is. turned_one back all p c once has.0 own.0.same (subst (There p) is compared.0)
      (found p.from own.0.here (found_in back p.to p.from has.0 (same_back p.from p.to own.0.same))))
      (each_turned front back all once found ps rs own.1 has.1 compared.1)

  -- what changes for tests changes the other way
  pub tests_turned : (front back : List ListTest) (pairs backs : List TestPair) (changed all : List TestChanges)
      → NamesOnce back → ArePairs front back pairs → ArePairs back front backs
      → AreCompared left right changes runs pairs changed → AreCompared right left changes_back runs backs all
      → (test : TestChanges) → Contains changed test → IsBack all test
  tests_turned front back pairs backs changed all once are turned compared again test has =
      let found : (t : ListTest) → Contains front t → is_in back t ≡ true → FoundBack back all t =
      λ t here is.
      found_back back all t backs again.results (recursion_from_All (IsPairOf back) backs turned.each) again.each
      (λ c h. subst (λ cs. Contains cs c) (sym again.kept) h)
      (subst (λ ts. Contains ts t) (sym turned.rights) (filtered (is_in back) front t here is)) in
      let there : All (Contains back) (filter (is_in front) back) =
      All-filter (is_in front) (Contains back) back (All-contains_itself back) in
      let ends = map (λ (pair : TestPair). pair.to) pairs in
      let in_back : AllByRecursion (Contains back) ends =
      recursion_from_All (Contains back) ends (subst (All (Contains back)) (sym are.rights) there) in
      let each : AllByRecursion (IsBack all) (filter_map (λ q. q) compared.results) =
      each_turned front back all once found pairs compared.results (recursion_from_All (IsPairOf front) pairs are.each)
      in_back compared.each in
      All-contains (IsBack all) changed test
      (All-from_recursion (IsBack all) changed (subst (AllByRecursion (IsBack all)) (sym compared.kept) each)) has
