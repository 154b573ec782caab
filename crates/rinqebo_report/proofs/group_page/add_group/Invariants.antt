use Rattle.std.proofs.Common.{◌≡◌, ◌++◌, flat_map, map, take, string_bytes}
use Rattle.rinqebo_report.specs.Groups.{grouped_test_runs}
use Rattle.rinqebo_report.specs.Pieces.{page_text}
use Rattle.rinqebo_report.proofs.group_page.add_group.Given as goal

abbrev pub invariant-loop-test : goal.invariant-loop-test
invariant-loop-test l =
    string_bytes l.out ≡ string_bytes l.initial.out ++ page_text l.colour
    (flat_map grouped_test_runs (map (λ test. test.now) (take l.test-index l.group)))
