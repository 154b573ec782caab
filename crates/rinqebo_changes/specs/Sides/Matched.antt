-- The tests that two lists have in common, and those that one has alone.
use Rattle.std.specs.Prelude.{◌≡◌, ◌&&◌, Bool, true, List, map, filter, flat_map, not, bytes_eq}
use Rattle.std.specs.List.{All, Contains, list_any}
use Rattle.filter_inputs.specs.Lists.Lists.{ListTest, tests_in}
use Rattle.filter_inputs.specs.Lists.ListView.{list_test_view, listed_view}
use Rattle.filter_inputs.specs.declared.lists.list.ListedBinary.{ListedBinary}
use Rattle.rinqebo_changes.specs.declared.sides.matched.AloneTests.{AloneTests}
use Rattle.rinqebo_changes.specs.declared.sides.matched.Pair.{Pair}

-- A test of the left list and one of the right list.
pub record TestPair : Type 0 where
  pub from : ListTest
  pub to : ListTest

-- A pair is of one test.
pub record IsOneTest (pair : TestPair) : Type 0 where
  pub same : pair.from ≡ pair.to

-- a pair of tests
abbrev pub pair_view : Pair → TestPair
pair_view pair = record { from = list_test_view pair.from; to = list_test_view pair.to }

-- whether two tests have the same binary and the same name
abbrev pub same_test : ListTest → ListTest → Bool
same_test a b =
    bytes_eq a.test.binary.binary_id b.test.binary.binary_id && bytes_eq a.test.name b.test.name

-- whether a test is in a list
abbrev pub is_in : List ListTest → ListTest → Bool
is_in tests test = list_any (λ one. same_test one test) tests

-- the tests of binaries, in order
abbrev pub tests_of : List ListedBinary → List ListTest
tests_of binaries = flat_map tests_in (map listed_view binaries)

-- A test of a list is another one: it has the same binary and the same name.
pub record IsFound (tests : List ListTest) (test found : ListTest) : Type 0 where
  pub here : Contains tests found
  pub same : same_test found test ≡ true

-- A pair is of a test and of one of the left list, which has the same binary and the same name.
pub record IsPairOf (from : List ListTest) (pair : TestPair) : Type 0 where
  pub here : Contains from pair.from
  pub same : same_test pair.from pair.to ≡ true

-- Pairs are of the tests of the right list that the left list has, in their order.
pub record ArePairs (from to : List ListTest) (pairs : List TestPair) : Type 0 where
  pub rights : map (λ pair. pair.to) pairs ≡ filter (is_in from) to
  pub each : All (IsPairOf from) pairs

-- A pair is of a test of the right list and of one of the left list, which has the same binary and
-- the same name.
pub record HasPair (from : List ListTest) (test : ListTest) (pair : TestPair) : Type 0 where
  pub right : pair.to ≡ test
  pub is_pair : IsPairOf from pair

-- The tests of two lists that one has alone.
pub record AreAlone (from to : List ListTest) (alone : AloneTests) : Type 0 where
  pub removed : map list_test_view alone.removed.items ≡ filter (λ t. not (is_in to t)) from
  pub added : map list_test_view alone.added.items ≡ filter (λ t. not (is_in from t)) to
