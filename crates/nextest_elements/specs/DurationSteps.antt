-- The steps in which a duration is read: only clauses of private functions speak of these.
use Rattle.std.specs.Prelude.{◌≡◌, ◌≢◌, ℕ, ◌+◌, ◌<◌, nat_le, if◌then◌else◌, List, [], ◌++◌, length, All, Option, Some, None, option_map, IfSome, slice_get, Result, Ok, Err}
use Rattle.std.specs.Borrow.{Bor}
use Rattle.nextest_elements.specs.declared.duration.ByteKind.{ByteKind}
use Rattle.nextest_elements.specs.declared.duration.DurationError.{DurationError}
use Rattle.nextest_elements.specs.declared.duration.DurationError.TheVariants.{Malformed}
use Rattle.nextest_elements.specs.Duration.{longest_duration}
use Rattle.nextest_elements.specs.DurationFunction.{byte_kind, words_of, sum_of, some_sum_of}

-- the nanoseconds, unless they are more than the longest duration
abbrev pub within_limit : ℕ → Option ℕ
within_limit n = if nat_le n longest_duration then Some n else None

-- The first byte, if there is one, is of another kind.
abbrev pub NotFirst : ByteKind → List ℕ → Type 0
NotFirst kind text = IfSome (slice_get text 0) (λ byte. byte_kind byte ≢ kind)

-- The text is the front and the rest, and the front is all that it begins with of this kind.
pub record SplitsRun (text : List ℕ) (kind : ByteKind) (front rest : List ℕ) : Type 0 where
  pub joined : text ≡ front ++ rest
  pub alike : All (λ byte. byte_kind byte ≡ kind) front
  pub longest : NotFirst kind rest

-- The text is an item of so many nanoseconds, and then the rest, which does not begin with a space.
pub record TakesItem (text : List ℕ) (amount : Option ℕ) (rest : List ℕ) : Type 0 where
  pub n : ℕ
  pub amount_is : amount ≡ within_limit n
  pub sum_is : some_sum_of (words_of text) ≡ option_map (λ m. n + m) (sum_of (words_of rest))
  pub tight : words_of rest ≡ [] → rest ≡ []
  pub shorter : length rest < length text

-- An item is read where the text begins with one, and else the text is not a duration.
abbrev pub ReadsItem : List ℕ → Result (Option ℕ × Bor (List ℕ)) DurationError → Type 0
ReadsItem text (Ok found) = TakesItem text found.0 found.1.now
ReadsItem text (Err e) = (e ≡ Malformed) × (some_sum_of (words_of text) ≡ None)

-- The items of a text are read where they are one or more, and else the text is not a duration.
abbrev pub ReadsItems : List ℕ → Result (Option ℕ) DurationError → Type 0
ReadsItems text (Ok total) =
    (n : ℕ) × (total ≡ within_limit n) × (some_sum_of (words_of text) ≡ Some n)
ReadsItems text (Err e) = (e ≡ Malformed) × (some_sum_of (words_of text) ≡ None)
