use Rattle.std.proofs.Common.{◌≡◌, false, take}
use Rattle.filter_inputs.specs.Lists.ListView.{list_test_view}
use Rattle.rinqebo_changes.specs.Sides.Matched.{is_in, tests_of}
use Rattle.rinqebo_changes.proofs.sides.matched.find.Given as goal

-- the test is none of those of the binaries so far
abbrev pub invariant-loop-binary : goal.invariant-loop-binary
invariant-loop-binary l = is_in (tests_of (take l.binary-index l.binaries)) (list_test_view l.test) ≡ false
