use Rattle.std.proofs.Common.{◌≡◌, ◌++◌, map, take, string_bytes}
use Rattle.rinqebo_report.specs.Pieces.{page_text}
use Rattle.rinqebo_report.specs.PieceView.{piece_view}
use Rattle.rinqebo_report.proofs.piece.add_pieces.Given as goal

abbrev pub invariant-loop-piece : goal.invariant-loop-piece
invariant-loop-piece l =
    string_bytes l.out ≡ string_bytes l.initial.out
    ++ page_text l.colour (map piece_view (take l.piece-index l.pieces))
