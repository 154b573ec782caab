use Rattle.std.proofs.Common.{◌≡◌, ◌<◌, ◌++◌, drop, length, map}
use Rattle.std.specs.Str.Lines.{lines}
use Rattle.rinqebo_faults.specs.Lines.{shown_behind, shown_view}
use Rattle.rinqebo_faults.proofs.lines.lines_of.Given as goal

abbrev pub invariant-loop-line : goal.invariant-loop-line
invariant-loop-line l =
    (l.number ≡ length l.yielded) × (length l.shown.items < 3)
    × (map shown_view l.shown.items ++ shown_behind l.marks l.number (drop (length l.yielded) (lines l.text))
    ≡ shown_behind l.marks 0 (lines l.text))
