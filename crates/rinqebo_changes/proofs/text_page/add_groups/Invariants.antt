use Rattle.std.proofs.Common.{◌≡◌, ◌++◌, flat_map, take, string_bytes}
use Rattle.rinqebo_report.specs.Pieces.{page_text}
use Rattle.rinqebo_changes.specs.Pages.{group_runs}
use Rattle.rinqebo_changes.proofs.text_page.add_groups.Given as goal

abbrev pub invariant-loop-group : goal.invariant-loop-group
invariant-loop-group l =
    string_bytes l.out ≡ string_bytes l.initial.out
    ++ page_text l.paper.colour (flat_map (group_runs l.paper.columns l.diff l.lists_all) (take l.group-index l.groups))
