use Rattle.std.proofs.Common.{◌≡◌, ◌++◌, drop}
use Rattle.std.specs.Prelude.{flat_map}
use Rattle.rinqebo_faults.specs.Lines.{line_parts, part_of, parts_from}
use Rattle.rinqebo_faults.proofs.lines.parts_of.Given as goal

abbrev pub invariant-loop-mark : goal.invariant-loop-mark
invariant-loop-mark l =
    l.parts.items ++ parts_from l.end (flat_map (part_of l.number l.line) (drop l.mark-index l.marks))
    ≡ line_parts l.marks l.number l.line
