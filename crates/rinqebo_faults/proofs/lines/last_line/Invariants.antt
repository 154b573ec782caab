use Rattle.std.proofs.Common.{◌≡◌, ◌<◌, ℕ, List, drop}
use Rattle.std.specs.Prelude.{flat_map}
use Rattle.rinqebo_faults.specs.Lines.{part_of}
use Rattle.rinqebo_faults.proofs.lines.last_line.Given as goal

abbrev pub invariant-loop-mark : goal.invariant-loop-mark
invariant-loop-mark l =
    (number : ℕ) → l.last < number → (line : List ℕ)
    → flat_map (part_of number line) l.marks ≡ flat_map (part_of number line) (drop l.mark-index l.marks)
