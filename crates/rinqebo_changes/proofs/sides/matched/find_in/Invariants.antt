use Rattle.std.proofs.Common.{◌≡◌, false, map, take}
use Rattle.filter_inputs.specs.Lists.Lists.{test_of}
use Rattle.filter_inputs.specs.Lists.ListView.{binary_view, case_view, list_test_view}
use Rattle.rinqebo_changes.specs.Sides.Matched.{is_in}
use Rattle.rinqebo_changes.proofs.sides.matched.find_in.Given as goal

-- the test is none of those so far
abbrev pub invariant-loop-case : goal.invariant-loop-case
invariant-loop-case l =
    is_in (map (test_of (binary_view l.binary)) (map case_view (take l.case-index l.binary.tests.items)))
    (list_test_view l.test) ≡ false
