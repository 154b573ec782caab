-- What a list has in common with itself.
use Rattle.std.specs.Prelude.{◌≡◌, true, List, [], filter, not}
use Rattle.std.specs.List.{AllByRecursion, Contains}
use Rattle.filter_inputs.specs.Lists.Lists.{ListTest}
use Rattle.rinqebo_changes.specs.Sides.Matched.{same_test, is_in, IsOneTest, TestPair}

-- Two tests of a list that have the same binary and the same name are one.
pub record NamesOnce (tests : List ListTest) : Type 0 where
  pub one : (a b : ListTest) → Contains tests a → Contains tests b → same_test a b ≡ true → a ≡ b

-- A list has all its own tests, and its pairs with itself are each of one test.
pub record AreOwn (tests : List ListTest) (pairs : List TestPair) : Type 0 where
  pub alone : filter (λ t. not (is_in tests t)) tests ≡ []
  pub each : AllByRecursion IsOneTest pairs
