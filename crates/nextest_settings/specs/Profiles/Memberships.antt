-- The groups of tests, said of the tests one by one.
use Rattle.std.specs.Prelude.{◌≡◌, ◌<◌, ℕ, List, true, Option, None, Some, slice_get}
use Rattle.nextest_elements.specs.declared.test_group.TestGroup.{TestGroup}
use Rattle.nextest_engines.specs.Engines.{Test}
use Rattle.nextest_settings.specs.Queries.{is_of_name}

-- A custom group is the last that the tests of a name get: one of them gets it, and no later one
-- gets a custom group.
pub record IsLastGroup (gets : Test → Option TestGroup) (tests : List Test)
    (binary_id name : List ℕ) (group : TestGroup) : Type 0 where
  pub place : ℕ
  pub test : Test
  pub stands : slice_get tests place ≡ Some test
  pub has_name : is_of_name binary_id name test ≡ true
  pub is : gets test ≡ Some group
  pub last : (n : ℕ) (later : Test) → place < n → slice_get tests n ≡ Some later
      → is_of_name binary_id name later ≡ true → gets later ≡ None

-- None of the tests of a name gets a custom group.
abbrev pub NoneGetsGroup : (Test → Option TestGroup) → List Test → (binary_id name : List ℕ)
    → Type 0
NoneGetsGroup gets tests binary_id name = (n : ℕ) (test : Test) → slice_get tests n ≡ Some test
    → is_of_name binary_id name test ≡ true → gets test ≡ None

-- Tests have distinct ids: no two of them have the same binary and the same name.
abbrev pub HaveDistinctIds : List Test → Type 0
HaveDistinctIds tests = (m n : ℕ) (test other : Test) → slice_get tests m ≡ Some test
    → slice_get tests n ≡ Some other → test.binary.binary_id ≡ other.binary.binary_id
    → test.name ≡ other.name → m ≡ n
