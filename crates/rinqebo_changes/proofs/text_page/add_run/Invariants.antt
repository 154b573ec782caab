use Rattle.std.proofs.Common.{◌≡◌, ◌++◌, flat_map, take, string_bytes}
use Rattle.rinqebo_report.specs.Pieces.{page_text}
use Rattle.rinqebo_changes.specs.Pages.{change_runs}
use Rattle.rinqebo_changes.proofs.text_page.add_run.Given as goal

abbrev pub invariant-loop-row : goal.invariant-loop-row
invariant-loop-row l =
    string_bytes l.out ≡ string_bytes l.initial.out
    ++ page_text l.paper.colour (flat_map (change_runs l.paper.columns l.diff) (take l.row-index l.diff.run.items))
