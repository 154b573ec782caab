-- The duration of a text as a function, by the runs of the text: a law says that it gives what the
-- grammar gives.
use Rattle.std.specs.Prelude.{ℕ, ◌+◌, ◌*◌, ◌==◌, nat_le, Bool, true, false, if◌then◌else◌, List, [], ◌∷◌, Option, Some, None, option_map, option_and_then, Result, Ok, Err, codes}
use Rattle.std.specs.Map.{lookup}
use Rattle.std.specs.Char.{is_ascii_digit}
use Rattle.std.specs.Str.{bytes_eq}
use Rattle.std.specs.Str.Parse.{digits_value}
use Rattle.nextest_elements.specs.declared.duration.ByteKind.{ByteKind}
use Rattle.nextest_elements.specs.declared.duration.ByteKind.TheVariants.{Space, Digit, Other}
use Rattle.nextest_elements.specs.declared.duration.DurationError.{DurationError}
use Rattle.nextest_elements.specs.declared.duration.DurationError.TheVariants.{Malformed, OutOfRange}
use Rattle.nextest_elements.specs.Duration.{duration_units, longest_duration}

-- the size of the unit of this name, if there is one
unfoldable pub unit_size : List ℕ → Option ℕ
unfolding duration_units
unit_size name = lookup (λ unit. bytes_eq unit name) duration_units

-- what a byte belongs to
abbrev pub byte_kind : ℕ → ByteKind
byte_kind byte = if byte == 32 then Space else (if is_ascii_digit byte then Digit else Other)

-- whether two bytes belong to one run
abbrev pub same_kind : ByteKind → ByteKind → Bool
same_kind Space Space = true
same_kind Digit Digit = true
same_kind Other Other = true
same_kind a b = false

-- bytes of one kind in a row
pub data ByteRun : Type 0 where
  run : (kind : ByteKind) (bytes : List ℕ) → ByteRun

-- runs, with one byte more of this kind before them
abbrev pub with_byte : ByteKind → ℕ → List ByteRun → List ByteRun
with_byte of byte [] = run of (byte ∷ []) ∷ []
with_byte of byte (run kind bytes ∷ rest) =
    if same_kind of kind then run of (byte ∷ bytes) ∷ rest
    else run of (byte ∷ []) ∷ (run kind bytes ∷ rest)

-- a text cut into runs that are as long as can be
unfoldable pub runs : List ℕ → List ByteRun
runs [] = []
runs (byte ∷ rest) = with_byte (byte_kind byte) byte (runs rest)

-- the runs but those of spaces
unfoldable pub without_spaces : List ByteRun → List ByteRun
without_spaces [] = []
without_spaces (run Space bytes ∷ rest) = without_spaces rest
without_spaces (run kind bytes ∷ rest) = run kind bytes ∷ without_spaces rest

-- the runs of a text but those of spaces
unfoldable pub words_of : List ℕ → List ByteRun
words_of text = without_spaces (runs text)

-- the sum of numbers and units in turn
unfoldable pub sum_of : List ByteRun → Option ℕ
sum_of [] = Some 0
sum_of (run Digit digits ∷ run Other name ∷ rest) =
    option_and_then
    (λ size. option_map (λ n. digits_value 10 digits * size + n) (sum_of rest))
    (unit_size name)
sum_of other = None

-- the same, where there is a number and a unit
unfoldable pub some_sum_of : List ByteRun → Option ℕ
some_sum_of [] = None
some_sum_of (r ∷ rest) = sum_of (r ∷ rest)

-- the nanoseconds of a text, if it is a duration
unfoldable pub duration_of : List ℕ → Option ℕ
duration_of text = if bytes_eq text (codes "0") then Some 0 else some_sum_of (words_of text)

-- what reading a text gives, by what the text means
abbrev pub duration_result : Option ℕ → Result ℕ DurationError
duration_result None = Err Malformed
duration_result (Some n) = if nat_le n longest_duration then Ok n else Err OutOfRange
