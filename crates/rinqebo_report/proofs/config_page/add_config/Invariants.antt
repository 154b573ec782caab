use Rattle.std.proofs.Common.{◌≡◌, ◌++◌, flat_map, take, string_bytes}
use Rattle.rinqebo_report.specs.Pages.{entry_runs}
use Rattle.rinqebo_report.specs.Pieces.{page_text}
use Rattle.rinqebo_report.proofs.config_page.add_config.Given as goal

abbrev pub invariant-loop-entry : goal.invariant-loop-entry
invariant-loop-entry l =
    string_bytes l.out ≡ string_bytes l.initial.out
    ++ page_text l.paper.colour (flat_map (entry_runs l.paper.columns l.root l.sources l.keys)
    (take l.entry-index l.entries))
