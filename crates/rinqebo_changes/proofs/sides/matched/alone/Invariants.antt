use Rattle.std.proofs.Common.{◌≡◌, filter, map, not, take}
use Rattle.filter_inputs.specs.Lists.ListView.{list_test_view}
use Rattle.rinqebo_changes.specs.Sides.Matched.{is_in, tests_of}
use Rattle.rinqebo_changes.proofs.sides.matched.alone.Given as goal

-- the tests of the binaries so far that the others do not have
abbrev pub invariant-loop-binary : goal.invariant-loop-binary
invariant-loop-binary l =
    map list_test_view l.found.items
    ≡ filter (λ t. not (is_in (tests_of l.others) t)) (tests_of (take l.binary-index l.binaries))
