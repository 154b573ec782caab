use Rattle.std.proofs.Common.{◌≡◌, ◌++◌, flat_map, take, string_bytes}
use Rattle.rinqebo_changes.specs.MarkdownPage.{test_cell}
use Rattle.rinqebo_changes.proofs.markdown_page.add_alone.Given as goal

abbrev pub invariant-loop-test : goal.invariant-loop-test
invariant-loop-test l =
    string_bytes l.out ≡ string_bytes l.initial.out ++ flat_map test_cell (take l.test-index l.tests)
