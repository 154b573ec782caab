use Rattle.std.proofs.Common.{map, take}
use Rattle.std.specs.List.{AllZip}
use Rattle.filter_inputs.specs.Lists.ListView.{list_test_view}
use Rattle.rinqebo_diff.specs.Differences.{IsIdOf}
use Rattle.rinqebo_diff.proofs.sides.ids_of.Given as goal

-- the tests so far have their names
abbrev pub invariant-loop-test : goal.invariant-loop-test
invariant-loop-test l = AllZip IsIdOf (map list_test_view (take l.test-index l.tests)) l.ids.items
