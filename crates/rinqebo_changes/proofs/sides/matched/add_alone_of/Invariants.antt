use Rattle.std.proofs.Common.{◌≡◌, ◌++◌, filter, map, not, take}
use Rattle.filter_inputs.specs.Lists.Lists.{test_of}
use Rattle.filter_inputs.specs.Lists.ListView.{binary_view, case_view, list_test_view}
use Rattle.rinqebo_changes.specs.Sides.Matched.{is_in, tests_of}
use Rattle.rinqebo_changes.proofs.sides.matched.add_alone_of.Given as goal

-- the tests so far that the others do not have are added
abbrev pub invariant-loop-case : goal.invariant-loop-case
invariant-loop-case l =
    map list_test_view l.found.items
    ≡ map list_test_view l.initial.found.items
    ++ filter (λ t. not (is_in (tests_of l.others) t))
    (map (test_of (binary_view l.binary)) (map case_view (take l.case-index l.binary.tests.items)))
