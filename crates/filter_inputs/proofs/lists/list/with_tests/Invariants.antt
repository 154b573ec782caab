use Rattle.std.proofs.Common.{◌≡◌, ◌++◌, map, take}
use Rattle.filter_inputs.specs.Lists.Lists.{test_of}
use Rattle.filter_inputs.specs.Lists.ListView.{binary_view, case_view, list_test_view}
use Rattle.filter_inputs.proofs.lists.list.with_tests.Given as goal

-- the tests so far
abbrev pub invariant-loop-case : goal.invariant-loop-case
invariant-loop-case l =
    map list_test_view l.found.items
    ≡ map list_test_view l.fn.found.items
    ++ map (test_of (binary_view l.binary)) (map case_view (take l.case-index l.binary.tests.items))
