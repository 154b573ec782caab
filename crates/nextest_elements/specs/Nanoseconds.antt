-- Durations as values.
use Rattle.std.specs.Prelude.{ℕ, List, Result, Ok, Err, codes}
use Rattle.nextest_elements.specs.declared.duration.DurationError.{DurationError}
use Rattle.nextest_elements.specs.declared.duration.DurationError.TheVariants.{Malformed, OutOfRange}
use Rattle.nextest_tree.specs.Node.{Node, text}
use Rattle.nextest_tree.specs.Schema.{FaultCause, wrong_kind, bad_value, out_of_range, Schema}
use Rattle.nextest_tree.specs.Leaf.{value}
use Rattle.nextest_elements.specs.DurationFunction.{duration_of, duration_result}

-- what is expected of a duration
unfoldable pub duration_expected : List ℕ
duration_expected = codes "a duration like `1h 30m`"

-- a text outside the grammar is refused for what it is, and one that is too long for its range
abbrev pub duration_value : List ℕ → Result ℕ DurationError → Result ℕ FaultCause
duration_value s (Ok n) = Ok n
duration_value s (Err Malformed) = Err (bad_value s duration_expected)
duration_value s (Err OutOfRange) = Err out_of_range

-- the nanoseconds of a text
abbrev pub duration_at : Node → Result ℕ FaultCause
duration_at (text s) = duration_value s (duration_result (duration_of s))
duration_at _ = Err wrong_kind

-- a text that is a duration
unfoldable pub a_duration : Schema
a_duration = value duration_at
