use Rattle.std.proofs.Common.{◌≡◌, ◌++◌, flat_map, take, string_bytes}
use Rattle.rinqebo_changes.specs.MarkdownPage.{item_cell}
use Rattle.rinqebo_changes.proofs.markdown_page.add_tests.Given as goal

abbrev pub invariant-loop-item : goal.invariant-loop-item
invariant-loop-item l =
    string_bytes l.out ≡ string_bytes l.initial.out ++ flat_map item_cell (take l.item-index l.items)
