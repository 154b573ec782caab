-- What a diff has beside its changes.
use Rattle.std.specs.Prelude.{List, map}
use Rattle.std.specs.List.{AllZip}
use Rattle.filter_inputs.specs.Lists.Lists.{Listed}
use Rattle.filter_inputs.specs.Lists.ListView.{list_test_view}
use Rattle.rinqebo_diff.specs.Differences.{IsCountOf, IsIdOf}
use Rattle.rinqebo_diff.specs.declared.sides.Beside.{Beside}
use Rattle.rinqebo_changes.specs.declared.sides.matched.AloneTests.{AloneTests}

-- The binaries of a list, and how many tests each has, and the names of the tests that one list has
-- alone.
pub record IsBeside (alone : AloneTests) (listed : List Listed) (beside : Beside) : Type 0 where
  pub binaries : AllZip IsCountOf listed beside.binaries.items
  pub removed : AllZip IsIdOf (map list_test_view alone.removed.items) beside.removed.items
  pub added : AllZip IsIdOf (map list_test_view alone.added.items) beside.added.items
