-- Where the lines of a text begin.
use Rattle.std.specs.Prelude.{◌≡◌, ℕ, List, slice_get, Some}
use Rattle.nextest_places.specs.declared.spans.position.ColumnUnit.{ColumnUnit}
use Rattle.nextest_places.specs.Spans.Positions.{IsPlace, position_of}

-- a line of a text begins at a byte
pub record IsLineStart (text : List ℕ) (line byte : ℕ) : Type 0 where
  pub place : IsPlace text byte
  pub position : (unit : ColumnUnit) → position_of unit text byte ≡ record { line = line; column = 0 }

-- each of some bytes is one at which the line of that number begins, from 0
abbrev pub AreLineStarts : List ℕ → List ℕ → Type 0
AreLineStarts text starts =
    (line byte : ℕ) → slice_get starts line ≡ Some byte → IsLineStart text line byte
