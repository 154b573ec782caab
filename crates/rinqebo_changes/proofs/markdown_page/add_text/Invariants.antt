use Rattle.std.proofs.Common.{◌≡◌, ◌++◌, flat_map, string_bytes}
use Rattle.rinqebo_changes.specs.MarkdownPage.{marked_char}
use Rattle.rinqebo_changes.proofs.markdown_page.add_text.Given as goal

abbrev pub invariant-loop-c : goal.invariant-loop-c
invariant-loop-c l =
    string_bytes l.out ≡ string_bytes l.initial.out ++ flat_map marked_char l.yielded
