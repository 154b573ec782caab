use Rattle.std.proofs.Common.{◌≡◌, ◌++◌, flat_map, take, string_bytes}
use Rattle.rinqebo_report.specs.Pieces.{page_text}
use Rattle.rinqebo_changes.specs.Pages.{test_runs}
use Rattle.rinqebo_changes.proofs.text_page.add_listed.Given as goal

abbrev pub invariant-loop-test : goal.invariant-loop-test
invariant-loop-test l =
    string_bytes l.out ≡ string_bytes l.initial.out
    ++ page_text l.colour (flat_map test_runs (take l.test-index l.tests))
