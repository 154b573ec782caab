use Rattle.std.proofs.Common.{◌≡◌, ◌+◌, drop, length}
use Rattle.nextest_places.specs.Lines.{first_lines}
use Rattle.nextest_places.proofs.lines.end_of.Given as goal

abbrev pub invariant-loop-i : goal.invariant-loop-i
invariant-loop-i l =
    length (first_lines l.fn.count l.fn.text) ≡ l.i + length (first_lines l.left (drop l.i l.fn.text))
