-- What was read of suites and of lists, one member more, and what is returned for them.
use Rattle.std.proofs.Common.{◌≡◌, ℕ, List, [], ◌∷◌, String, Global, Vec, Option, Some, None, MatchOption, Result, Ok, Err, IfOk, codes, option_and_then, option_map, unwrap_or, refl, sym, ap, subst, ◌∙◌, map}
use Rattle.std.specs.List.{AllZip, flat_map}
use Rattle.serde_json.specs.Data.{Data, object, Members, no_members, put}
use Rattle.serde_json.specs.Find.{as_str, get, get_member}
use Rattle.serde_json.specs.View.{members_view}
use Rattle.serde_json.specs.declared.value.Value.{Value}
use Rattle.serde_json.proofs.Views.{get_member-put, get_member-put_other}
use Rattle.filter_inputs.specs.declared.fields.kind.Wanted.TheVariants as kinds
use Rattle.filter_inputs.specs.Lists.Demands.{Demand, Expected, of_kind, a_platform, build_demands, demands, first_fault, if_given, listed, member_place, platforms_demands, platforms_in, suite_demands, suite_place, suites_demands}
use Rattle.filter_inputs.specs.Lists.ListView.{case_view, listed_view}
use Rattle.filter_inputs.specs.Lists.Lists.{AreTriples, AreTriplesIn, IsListOf, IsSuiteOf, Listed, TestList, cases_in, target_directory_in, values}
use Rattle.filter_inputs.specs.Lists.Parts.{AreListParts, AreOthers, AreSuiteParts}
use Rattle.filter_inputs.specs.declared.lists.list.ListedBinary.{ListedBinary}
use Rattle.filter_inputs.specs.declared.lists.list.TestCase.{TestCase}
use Rattle.filter_inputs.proofs.lists.Entries.{differ_by, same_after_put}
use Rattle.filter_inputs.proofs.lists.FirstFaults.{fault_behind, if_some_weaker}

-- what holds of a value twice
pub if_ok_both : {X E : Type 0} (r : Result X E) (P Q : X → Type 0) → IfOk r P → IfOk r Q → IfOk r (λ x. P x × Q x)
if_ok_both (Ok x) P Q p q = (p, q)
if_ok_both (Err e) P Q p q = tt

abbrev Entries : Type 0
Entries = List (String Global × Value)

others_put : (special k : List ℕ) (d : Data) (ms : Members) (es more : Entries) → AreOthers special ms es
    → members_view more ≡ put k d (members_view es) → AreOthers special (put k d ms) more
others_put special k d ms es more are is =
    λ other apart. same_after_put other k d ms (members_view es) (are other apart) ∙ sym (ap (get_member other) is)

others_special : (special : List ℕ) (d : Data) (ms : Members) (es : Entries) → AreOthers special ms es
    → AreOthers special (put special d ms) es
others_special special d ms es are = λ other apart. get_member-put_other other special d ms apart ∙ are other apart

-- nothing was read of a suite yet
pub no_suite_parts : (es : Entries) → es ≡ [] → AreSuiteParts no_members es None
no_suite_parts es none = (λ other apart. sym (ap (λ es. get_member other (members_view es)) none), tt)

-- nothing was read of a list yet
pub no_list_parts : (es : Entries) → es ≡ [] → AreListParts no_members es None
no_list_parts es none = (λ other apart. sym (ap (λ es. get_member other (members_view es)) none), tt)

-- another member of a suite
pub suite_put : (k : List ℕ) (d : Data) (suite : Members) (es more : Entries) (tests : Option (Vec TestCase Global))
    → (k ≡ codes "testcases" → ⊥) → members_view more ≡ put k d (members_view es) → AreSuiteParts suite es tests
    → AreSuiteParts (put k d suite) more tests
suite_put k d suite es more tests apart is are = (
  others_put (codes "testcases") k d suite es more are.0 is,
  if_some_weaker tests
      (λ tests. (cases : Members) × (get_member (codes "testcases") suite ≡ Some (object cases))
      × (map case_view tests.items ≡ cases_in cases))
      (λ tests. (cases : Members) × (get_member (codes "testcases") (put k d suite) ≡ Some (object cases))
      × (map case_view tests.items ≡ cases_in cases))
      (λ tests found. (
        found.0,
        get_member-put_other (codes "testcases") k d suite (λ same. apart (sym same)) ∙ found.1,
        found.2,
      )) are.1,
)

-- the test cases of a suite
pub suite_tests : (suite cases : Members) (es : Entries) (before : Option (Vec TestCase Global))
    (tests : Vec TestCase Global)
    → map case_view tests.items ≡ cases_in cases → AreSuiteParts suite es before
    → AreSuiteParts (put (codes "testcases") (object cases) suite) es (Some tests)
suite_tests suite cases es before tests is are = (
  others_special (codes "testcases") (object cases) suite es are.0,
  (cases, get_member-put (codes "testcases") (object cases) suite, is),
)

-- another member of a list
pub list_put : (k : List ℕ) (d : Data) (list : Members) (es more : Entries)
    (binaries : Option (Vec ListedBinary Global))
    → (k ≡ codes "rust-suites" → ⊥) → members_view more ≡ put k d (members_view es) → AreListParts list es binaries
    → AreListParts (put k d list) more binaries
list_put k d list es more binaries apart is are = (
  others_put (codes "rust-suites") k d list es more are.0 is,
  if_some_weaker binaries
      (λ binaries. (suites : Members) × (get_member (codes "rust-suites") list ≡ Some (object suites))
      × AllZip IsSuiteOf (values suites) (map listed_view binaries.items)
      × (first_fault (flat_map suite_demands (listed suites)) ≡ None))
      (λ binaries. (suites : Members) × (get_member (codes "rust-suites") (put k d list) ≡ Some (object suites))
      × AllZip IsSuiteOf (values suites) (map listed_view binaries.items)
      × (first_fault (flat_map suite_demands (listed suites)) ≡ None))
      (λ binaries found. (
        found.0,
        get_member-put_other (codes "rust-suites") k d list (λ same. apart (sym same)) ∙ found.1,
        found.2,
        found.3,
      )) are.1,
)

-- the suites of a list
pub list_suites : (list suites : Members) (es : Entries) (before : Option (Vec ListedBinary Global))
    (binaries : Vec ListedBinary Global)
    → AllZip IsSuiteOf (values suites) (map listed_view binaries.items)
    → first_fault (flat_map suite_demands (listed suites)) ≡ None → AreListParts list es before
    → AreListParts (put (codes "rust-suites") (object suites) list) es (Some binaries)
list_suites list suites es before binaries are met so_far = (
  others_special (codes "rust-suites") (object suites) list es so_far.0,
  (suites, get_member-put (codes "rust-suites") (object suites) list, are, met),
)

-- ---- the binary of a suite

abbrev member_at : List ℕ → List ℕ → Option Data → Expected → Demand
member_at id key found expected = record { place = member_place id key; found = found; expected = expected }

abbrev demands_by : List ℕ → Data → (a b c d e f g : Option Data) → List Demand
demands_by id suite a b c d e f g =
    record { place = suite_place id; found = Some suite; expected = of_kind kinds.Object }
    ∷ member_at id (codes "package-name") a (of_kind kinds.Text)
    ∷ member_at id (codes "package-id") b (of_kind kinds.Text)
    ∷ member_at id (codes "binary-id") c (of_kind kinds.Text)
    ∷ member_at id (codes "binary-name") d (of_kind kinds.Text)
    ∷ member_at id (codes "kind") e (of_kind kinds.Text)
    ∷ member_at id (codes "build-platform") f a_platform
    ∷ member_at id (codes "testcases") g (of_kind kinds.Object)
    ∷ []

met_by : (id : List ℕ) (s t cases none : Members) (a b c d e f g a' b' c' d' e' f' g' : Option Data)
    → a ≡ a' → b ≡ b' → c ≡ c' → d ≡ d' → e ≡ e' → f ≡ f' → g ≡ Some (object cases) → g' ≡ Some (object none)
    → first_fault (demands_by id (object t) a' b' c' d' e' f' g') ≡ None
    → first_fault (demands_by id (object s) a b c d e f g) ≡ None
met_by id s t cases none a b c d e f g a' b' c' d' e' f' g' at_a at_b at_c at_d at_e at_f at_g at_g' met =
    rw (at_a, at_b, at_c, at_d, at_e, at_f, at_g) (rw at_g' at met)

-- A suite that was read in parts is that of a binary, if the one with its members, and no test case,
-- is that of the same binary without tests.
pub binary_of_parts : (id : List ℕ) (suite : Members) (es after : Entries) (tests : Vec TestCase Global) (l : Listed)
    → AreSuiteParts suite es (Some tests)
    → members_view after ≡ put (codes "testcases") (object no_members) (members_view es)
    → IsSuiteOf (object (members_view after)) l
    → first_fault (suite_demands (id, object (members_view after))) ≡ None
    → IsSuiteOf (object suite)
    (record { binary = l.binary; package_name = l.package_name; tests = map case_view tests.items })
    × (first_fault (suite_demands (id, object suite)) ≡ None)
binary_of_parts id suite es after tests l are inserted is met =
    let same = λ (key : List ℕ) (apart : key ≡ codes "testcases" → ⊥).
    are.0 key apart ∙ sym (ap (get_member key) inserted
    ∙ get_member-put_other key (codes "testcases") (object no_members) (members_view es) apart) in
    let at_a : get_member (codes "package-name") suite ≡ get_member (codes "package-name") (members_view after) =
    same (codes "package-name") (differ_by (codes "package-name") (codes "testcases") refl) in
    let at_b : get_member (codes "package-id") suite ≡ get_member (codes "package-id") (members_view after) =
    same (codes "package-id") (differ_by (codes "package-id") (codes "testcases") refl) in
    let at_c : get_member (codes "binary-id") suite ≡ get_member (codes "binary-id") (members_view after) =
    same (codes "binary-id") (differ_by (codes "binary-id") (codes "testcases") refl) in
    let at_d : get_member (codes "binary-name") suite ≡ get_member (codes "binary-name") (members_view after) =
    same (codes "binary-name") (differ_by (codes "binary-name") (codes "testcases") refl) in
    let at_e : get_member (codes "kind") suite ≡ get_member (codes "kind") (members_view after) =
    same (codes "kind") (differ_by (codes "kind") (codes "testcases") refl) in
    let at_f : get_member (codes "build-platform") suite ≡ get_member (codes "build-platform") (members_view after) =
    same (codes "build-platform") (differ_by (codes "build-platform") (codes "testcases") refl) in
    let at_g : get_member (codes "testcases") (members_view after) ≡ Some (object no_members) =
    ap (get_member (codes "testcases")) inserted
    ∙ get_member-put (codes "testcases") (object no_members) (members_view es) in (
      record {
        package_name = at_a ∙ is.package_name;
        package_id = at_b ∙ is.package_id;
        binary_id = at_c ∙ is.binary_id;
        binary_name = at_d ∙ is.binary_name;
        kind = at_e ∙ is.kind;
        platform_name = is.platform_name;
        has_platform = at_f ∙ is.has_platform;
        platform = is.platform;
        cases = are.1.0;
        has_cases = are.1.1;
        tests = are.1.2;
      },
      met_by id suite (members_view after) are.1.0 no_members _ _ _ _ _ _ _ _ _ _ _ _ _ _ at_a at_b at_c at_d
          at_e at_f are.1.1 at_g met,
    )

-- ---- a list

module _ (list : Members) (es : Entries) (binaries : Vec ListedBinary Global)
    (are : AreListParts list es (Some binaries)) where
  same_meta : get_member (codes "rust-build-meta") list ≡ get_member (codes "rust-build-meta") (members_view es)
  same_meta = are.0 (codes "rust-build-meta") (differ_by (codes "rust-build-meta") (codes "rust-suites") refl)

  same_platforms : platforms_in (object list) ≡ platforms_in (object (members_view es))
  same_platforms = ap (λ meta. option_and_then (λ m. option_and_then if_given (get (codes "platforms") m))
      meta) same_meta

  pub list_of_parts : (l : TestList) → AreTriples (object (members_view es)) l.triples
      → l.target_directory ≡ target_directory_in (object (members_view es))
      → l.binaries ≡ map listed_view binaries.items
      → IsListOf (object list) l
  list_of_parts l triples directory same = record {
    triples = subst (λ (found : Option Data). MatchOption found
        (l.triples ≡ record { host = None; target = None }) (λ p. AreTriplesIn p l.triples))
        (sym same_platforms) triples;
    target_directory = directory
        ∙ sym (ap (λ meta. option_and_then as_str (option_and_then (get (codes "target-directory")) meta)) same_meta);
    suites = are.1.0;
    has_suites = are.1.1;
    binaries = subst (AllZip IsSuiteOf (values are.1.0)) (sym same) are.1.2;
  }

  pub list_met : first_fault (build_demands (object (members_view es))) ≡ None
      → first_fault (demands (object list)) ≡ None
  list_met met =
      fault_behind (build_demands (object list)) (suites_demands (get_member (codes "rust-suites") list)) None
      (ap (λ found. first_fault (unwrap_or (option_map platforms_demands found) [])) same_platforms ∙ met)
      (ap (λ found. first_fault (suites_demands found)) are.1.1 ∙ are.1.3)
