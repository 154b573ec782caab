-- Laws of positions and offsets.
use Rattle.std.specs.Prelude.{◌<◌, if◌then◌else◌, ℕ, List, [], ◌∷◌, ◌++◌, drop, length, slice_index}
use Rattle.std.specs.Str.{IsCharBoundary, IsUtf8}
use Rattle.nextest_places.specs.declared.spans.position.ColumnUnit.{ColumnUnit}
use Rattle.toml_parser.specs.Lexical.{first, line_feed}
use Rattle.nextest_places.specs.Spans.Offsets.{AreOffsets, Denotes, is_multi}
use Rattle.nextest_places.specs.Spans.Positions.{IsBefore, position_of}

-- of two bytes between characters, the earlier one has the earlier position
abbrev pub PositionsRise : Type 0
PositionsRise = (unit : ColumnUnit) (text : List ℕ) (a b : ℕ) → IsUtf8 text
    → IsCharBoundary text a → IsCharBoundary text b → a < b
    → IsBefore (position_of unit text a) (position_of unit text b)

-- what opens a string of the token's kind, with a newline that is left out where it may be
abbrev pub opening : List ℕ → List ℕ
opening token =
    if is_multi token then first token ∷ first token ∷ first token ∷ line_feed ∷ []
    else first token ∷ []

-- opened anew where its token writes a character, a string has the characters from that one on
abbrev pub OffsetsReopen : Type 0
OffsetsReopen =
    (token offsets : List ℕ) (is : AreOffsets token offsets) (k : ℕ) → k < length offsets
    → Denotes (opening token ++ drop (slice_index offsets k) token) (drop k is.cs)
