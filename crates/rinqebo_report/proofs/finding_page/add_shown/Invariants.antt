use Rattle.std.proofs.Common.{◌≡◌, ◌++◌, flat_map, take, string_bytes}
use Rattle.rinqebo_report.specs.Pages.{finding_runs}
use Rattle.rinqebo_report.specs.Pieces.{page_text}
use Rattle.rinqebo_report.proofs.finding_page.add_shown.Given as goal

abbrev pub invariant-loop-finding : goal.invariant-loop-finding
invariant-loop-finding l =
    string_bytes l.out ≡ string_bytes l.initial.out
    ++ page_text l.colour (flat_map (finding_runs l.root l.sources) (take l.finding-index l.findings))
