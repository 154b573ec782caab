use Rattle.std.proofs.Common.{◌≡◌, ◌++◌, flat_map, replicate, string_bytes}
use Rattle.rinqebo_report.specs.Pieces.{shown_char}
use Rattle.rinqebo_report.proofs.piece.add_each.Given as goal

abbrev pub invariant-loop-index : goal.invariant-loop-index
invariant-loop-index l =
    string_bytes l.out ≡ string_bytes l.initial.out ++ flat_map shown_char (replicate l._index l.c)
