use Rattle.std.proofs.Common.{◌≡◌, ◌++◌, flat_map, take, string_bytes}
use Rattle.rinqebo_report.specs.Pages.{listed_runs}
use Rattle.rinqebo_report.specs.Pieces.{page_text}
use Rattle.rinqebo_report.proofs.list_page.add_tests.Given as goal

abbrev pub invariant-loop-test : goal.invariant-loop-test
invariant-loop-test l =
    string_bytes l.out ≡ string_bytes l.initial.out
    ++ page_text l.paper.colour (flat_map (listed_runs l.paper.columns l.root l.sources)
    (take l.test-index l.tests))
