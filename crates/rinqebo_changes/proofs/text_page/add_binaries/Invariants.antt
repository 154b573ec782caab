use Rattle.std.proofs.Common.{◌≡◌, ◌++◌, take, string_bytes}
use Rattle.rinqebo_report.specs.Pieces.{page_text}
use Rattle.rinqebo_changes.specs.Pages.{binaries_runs}
use Rattle.rinqebo_changes.proofs.text_page.add_binaries.Given as goal

abbrev pub invariant-loop-binary : goal.invariant-loop-binary
invariant-loop-binary l =
    string_bytes l.out ≡ string_bytes l.initial.out
    ++ page_text l.colour (binaries_runs l.diff.binaries.items l.lists_all (take l.binary-index l.binaries))
