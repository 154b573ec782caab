use Rattle.std.proofs.Common.{◌≡◌, flat_map, string_bytes}
use Rattle.rinqebo_report.specs.Pieces.{shown_char}
use Rattle.rinqebo_report.proofs.finding_page.shown_width.Given as goal

abbrev pub invariant-loop-c : goal.invariant-loop-c
invariant-loop-c l = string_bytes l.front ≡ flat_map shown_char l.yielded
