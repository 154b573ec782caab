-- Lists of tests, and the lists in documents.
use Rattle.std.specs.Prelude.{◌≡◌, ℕ, Bool, false, List, map, Option, None, Some, MatchOption, option_and_then, option_map, codes, flat_map}
use Rattle.std.specs.List.{AllZip}
use Rattle.nextest_engines.specs.Engines.{Binary, Test}
use Rattle.serde_json.specs.Data.{Data, boolean, string, object, Members}
use Rattle.serde_json.specs.Find.{as_str, get}
use Rattle.filter_inputs.specs.Lists.Demands.{first_target, listed, platform_of, platforms_in, triple_in}

-- A test of a binary: its name, and whether a list says that it is ignored.
pub record Case : Type 0 where
  pub name : List ℕ
  pub ignored : Bool

-- A binary of a list: what filters see of it, the name of its package, and its tests.
pub record Listed : Type 0 where
  pub binary : Binary
  pub package_name : List ℕ
  pub tests : List Case

-- A test of a list: what filters see of it, and whether the list says that it is ignored.
pub record ListTest : Type 0 where
  pub test : Test
  pub ignored : Bool

-- the triples of a build: that of the host, and that of the target, if they are known
pub record Triples : Type 0 where
  pub host : Option (List ℕ)
  pub target : Option (List ℕ)

-- A list of tests: the triples of the build, the target directory if it is known, and the binaries.
pub record TestList : Type 0 where
  pub triples : Triples
  pub target_directory : Option (List ℕ)
  pub binaries : List Listed

-- a test of a binary, as a test of a list
abbrev pub test_of : Binary → Case → ListTest
test_of binary case = record {
  test = record { binary = binary; name = case.name };
  ignored = case.ignored;
}

-- the tests of a binary
abbrev pub tests_in : Listed → List ListTest
tests_in b = map (test_of b.binary) b.tests

-- the tests of a list, in order
abbrev pub list_tests : TestList → List ListTest
list_tests list = flat_map tests_in list.binaries

-- the tests of a list, in order, as filters see them
abbrev pub all_tests : TestList → List Test
all_tests list = map (λ t. t.test) (list_tests list)

-- the binaries of a list, in order
abbrev pub all_binaries : TestList → List Binary
all_binaries list = map (λ b. b.binary) list.binaries

-- whether a value that may be absent is `true`
abbrev pub is_true : Option Data → Bool
is_true (Some (boolean b)) = b
is_true found = false

-- whether a test case says that its test is ignored: the member `ignored` is `true`
abbrev pub is_ignored : Data → Bool
is_ignored case = is_true (get (codes "ignored") case)

-- the tests of test cases: each has the key of its case as its name
abbrev pub cases_in : Members → List Case
cases_in members = map (λ m. record { name = m.0; ignored = is_ignored m.1 }) (listed members)

-- the values of an object
abbrev pub values : Members → List Data
values members = map (λ m. m.1) (listed members)

-- A suite describes a binary: it has each property of the binary at a key, and the binary's tests
-- are those of its test cases.
pub record IsSuiteOf (suite : Data) (b : Listed) : Type 0 where
  pub package_name : get (codes "package-name") suite ≡ Some (string b.package_name)
  pub package_id : get (codes "package-id") suite ≡ Some (string b.binary.package_id)
  pub binary_id : get (codes "binary-id") suite ≡ Some (string b.binary.binary_id)
  pub binary_name : get (codes "binary-name") suite ≡ Some (string b.binary.binary_name)
  pub kind : get (codes "kind") suite ≡ Some (string b.binary.kind)
  pub platform_name : List ℕ
  pub has_platform : get (codes "build-platform") suite ≡ Some (string platform_name)
  pub platform : platform_of platform_name ≡ Some b.binary.platform
  pub cases : Members
  pub has_cases : get (codes "testcases") suite ≡ Some (object cases)
  pub tests : b.tests ≡ cases_in cases

-- Triples are those of the platforms of a build: of the host, and of the first target.
pub record AreTriplesIn (platforms : Data) (triples : Triples) : Type 0 where
  pub host : triple_in (get (codes "host") platforms) ≡ option_map string triples.host
  pub target : triple_in (first_target platforms) ≡ option_map string triples.target

-- Triples are those in a document: none, if it has no platforms of the build.
abbrev pub AreTriples : Data → Triples → Type 0
AreTriples document triples = MatchOption (platforms_in document)
    (triples ≡ record { host = None; target = None }) (λ p. AreTriplesIn p triples)

-- the target directory of a document: the string at `target-directory` of `rust-build-meta`, if it
-- has one
abbrev pub target_directory_in : Data → Option (List ℕ)
target_directory_in document =
    option_and_then as_str (option_and_then (get (codes "target-directory"))
    (get (codes "rust-build-meta") document))

-- A list is the one in a document: the triples of the build, the target directory, and a binary for
-- each suite, in order.
pub record IsListOf (document : Data) (list : TestList) : Type 0 where
  pub triples : AreTriples document list.triples
  pub target_directory : list.target_directory ≡ target_directory_in document
  pub suites : Members
  pub has_suites : get (codes "rust-suites") document ≡ Some (object suites)
  pub binaries : AllZip IsSuiteOf (values suites) list.binaries
