use Rattle.std.proofs.Common.{◌≡◌, filter, map, take}
use Rattle.filter_inputs.specs.Lists.ListView.{list_test_view}
use Rattle.rinqebo_load.specs.FoundTests.{is_named}
use Rattle.rinqebo_load.proofs.find_test.named_tests.Given as goal

-- the tests so far that the request names
abbrev pub invariant-loop-test : goal.invariant-loop-test
invariant-loop-test l =
    map list_test_view l.named.items
    ≡ filter (is_named l.requested.binary l.requested.name.now) (take l.test-index (map list_test_view l.tests))
