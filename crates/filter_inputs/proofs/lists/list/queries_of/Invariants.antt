use Rattle.std.proofs.Common.{◌≡◌, map, take}
use Rattle.nextest_engines.specs.Engines.{test_view}
use Rattle.filter_inputs.specs.Lists.ListView.{list_test_view}
use Rattle.filter_inputs.proofs.lists.list.queries_of.Given as goal

-- the tests so far
abbrev pub invariant-loop-test : goal.invariant-loop-test
invariant-loop-test l =
    map test_view l.queries.items
    ≡ map (λ t. t.test) (map list_test_view (take l.test-index l.tests))
