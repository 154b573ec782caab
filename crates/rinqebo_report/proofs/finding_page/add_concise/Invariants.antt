use Rattle.std.proofs.Common.{◌≡◌, ◌++◌, flat_map, take, string_bytes}
use Rattle.rinqebo_report.specs.Pages.{concise_line_runs}
use Rattle.rinqebo_report.specs.Pieces.{page_text}
use Rattle.rinqebo_report.proofs.finding_page.add_concise.Given as goal

abbrev pub invariant-loop-finding : goal.invariant-loop-finding
invariant-loop-finding l =
    string_bytes l.out ≡ string_bytes l.initial.out
    ++ page_text l.colour (flat_map (concise_line_runs (string_bytes l.report.root) l.report.sources.items)
    (take l.finding-index l.report.findings.items))
