use Rattle.std.proofs.Common.{◌≡◌, flat_map, map, take}
use Rattle.filter_inputs.specs.Lists.Lists.{tests_in}
use Rattle.filter_inputs.specs.Lists.ListView.{list_test_view, listed_view}
use Rattle.filter_inputs.proofs.lists.list.ListedTests.tests.Given as goal

-- the tests of the binaries so far
abbrev pub invariant-loop-binary : goal.invariant-loop-binary
invariant-loop-binary l =
    map list_test_view l.tests.items
    ≡ flat_map tests_in (map listed_view (take l.binary-index l.self.binaries.items))
