-- The definitions on a text: `x`, U+1F600 and U+00E9, a carriage return with its line feed, and `y`.
use Rattle.std.specs.Prelude.{◌≡◌, ℕ, List, [], ◌∷◌, refl}
use Rattle.std.specs.Str.{chars}
use Rattle.nextest_places.specs.declared.spans.position.ColumnUnit.TheVariants.{Byte, Char, Utf16}
use Rattle.nextest_places.specs.Spans.Positions.{position_behind, position_of}

abbrev sample : List ℕ
sample = 120 ∷ 240 ∷ 159 ∷ 152 ∷ 128 ∷ 195 ∷ 169 ∷ 13 ∷ 10 ∷ 121 ∷ []

bytes : position_of Byte sample 7 ≡ record { line = 0; column = 7 }
unfolding position_behind chars
bytes = refl

characters : position_of Char sample 7 ≡ record { line = 0; column = 3 }
unfolding position_behind chars
characters = refl

units : position_of Utf16 sample 7 ≡ record { line = 0; column = 4 }
unfolding position_behind chars
units = refl

behind_a_pair : position_of Utf16 sample 5 ≡ record { line = 0; column = 3 }
unfolding position_behind chars
behind_a_pair = refl

within_a_line_end : position_of Utf16 sample 8 ≡ record { line = 0; column = 5 }
unfolding position_behind chars
within_a_line_end = refl

behind_a_line_end : position_of Utf16 sample 9 ≡ record { line = 1; column = 0 }
unfolding position_behind chars
behind_a_line_end = refl

at_the_end : position_of Utf16 sample 10 ≡ record { line = 1; column = 1 }
unfolding position_behind chars
at_the_end = refl
