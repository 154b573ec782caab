-- What contracts see of pieces.
use Rattle.rinqebo_report.specs.Pieces.{Run, styled, repeated, numbered, ending}
use Rattle.rinqebo_report.specs.declared.piece.Piece.{Piece}
use Rattle.rinqebo_report.specs.declared.piece.Piece.TheVariants.{Text, Repeat, Number, End}

-- a piece that code holds
abbrev pub piece_view : Piece → Run
piece_view (Text style text) = styled style text.now
piece_view (Repeat c count) = repeated c count
piece_view (Number n) = numbered n
piece_view End = ending
