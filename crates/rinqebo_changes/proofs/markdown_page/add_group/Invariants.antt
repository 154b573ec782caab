use Rattle.std.proofs.Common.{◌≡◌, ◌++◌, flat_map, take, string_bytes}
use Rattle.rinqebo_changes.specs.MarkdownPage.{binary_cell}
use Rattle.rinqebo_changes.proofs.markdown_page.add_group.Given as goal

abbrev pub invariant-loop-binary : goal.invariant-loop-binary
invariant-loop-binary l =
    string_bytes l.out ≡ string_bytes l.initial.out ++ flat_map (λ binary. binary_cell l.diff.binaries.items l.lists_all binary.items.items) (take l.binary-index l.group.binaries.items)
