use Rattle.std.proofs.Common.{◌≡◌, ◌++◌, flat_map, take, string_bytes}
use Rattle.rinqebo_changes.specs.MarkdownPage.{group_line}
use Rattle.rinqebo_changes.proofs.markdown_page.add_groups.Given as goal

abbrev pub invariant-loop-group : goal.invariant-loop-group
invariant-loop-group l =
    string_bytes l.out ≡ string_bytes l.initial.out ++ flat_map (group_line l.diff l.lists_all) (take l.group-index l.groups)
