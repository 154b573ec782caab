use Rattle.std.proofs.Common.{◌≡◌, ◌++◌, flat_map, map, take, string_bytes}
use Rattle.rinqebo_report.specs.Groups.{members_runs}
use Rattle.rinqebo_report.specs.Pieces.{page_text}
use Rattle.rinqebo_report.proofs.group_page.add_groups.Given as goal

abbrev pub invariant-loop-group : goal.invariant-loop-group
invariant-loop-group l =
    string_bytes l.out ≡ string_bytes l.initial.out ++ page_text l.colour
    (flat_map members_runs (map (λ group. map (λ test. test.now) group.items)
    (take l.group-index l.group-items)))
