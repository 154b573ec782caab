-- A piece of a text, which is blank or holds one expression.
use Rattle.std.specs.Prelude.{◌≡◌, ◌-◌, ◌<◌, ◌==◌, ◌&&◌, ℕ, Bool, if◌then◌else◌, List, [], ◌∷◌, ◌++◌, slice_index, MatchOption}
use Rattle.toml_parser.specs.Lexical.{first, left_bracket, skip_blank}
use Rattle.toml.specs.Parse.{skip_bom}
use Rattle.nextest_places.specs.Contents.{HoldsOne, definition_view}
use Rattle.nextest_places.specs.Lines.{after_lines, first_lines}
use Rattle.nextest_places.specs.declared.piece.Piece.{Piece}

-- what is read of lines: at the start of a document a byte order mark is left out
abbrev pub read_lines : Bool → List ℕ → List ℕ
read_lines is_start lines = if is_start then skip_bom lines else lines

-- The first lines of a text that a piece takes are blank or hold one expression. Where it takes
-- several, neither the first nor the last one of them is blank.
pub record IsPiece (is_start : Bool) (text : List ℕ) (piece : Piece) : Type 0 where
  pub some : 0 < piece.count
  pub rest : piece.rest.now ≡ after_lines piece.count text
  pub lines : piece.lines.now ≡ read_lines is_start (first_lines piece.count text)
  pub holds : MatchOption piece.definition
      (skip_blank (read_lines is_start (first_lines piece.count text)) ≡ [])
      (λ d. HoldsOne (read_lines is_start (first_lines piece.count text)) (definition_view d))
  pub begins : 1 < piece.count → ¬ (skip_blank (read_lines is_start (first_lines 1 text)) ≡ [])
  pub ends : 1 < piece.count
      → ¬ (skip_blank (after_lines (piece.count - 1) (first_lines piece.count text)) ≡ [])

-- a text begins with two brackets
abbrev pub is_double : List ℕ → Bool
is_double text = first text == left_bracket && slice_index text 1 == left_bracket

-- where nothing follows the first lines of a text, it ends with a newline
abbrev pub IsClosed : List ℕ → List ℕ → Type 0
IsClosed text behind = behind ≡ [] → (a : List ℕ) × (text ≡ a ++ 10 ∷ [])
