use Rattle.std.proofs.Common.{◌≡◌, ◌++◌, flat_map, string_bytes}
use Rattle.rinqebo_report.specs.Pieces.{shown_char}
use Rattle.rinqebo_report.proofs.piece.add_spelled.Given as goal

abbrev pub invariant-loop-c : goal.invariant-loop-c
invariant-loop-c l =
    string_bytes l.out ≡ string_bytes l.initial.out ++ flat_map shown_char l.yielded
