-- When a test counts as slow, and when it is ended.
use Rattle.std.specs.Prelude.{◌≡◌, ℕ, List, [], ◌∷◌, Option, Some, None, option_map, Result, codes}
use Rattle.nextest_tree.specs.declared.key.Key.TheVariants.{Period, TerminateAfter, GracePeriod, OnTimeout}
use Rattle.nextest_elements.specs.declared.slow_timeout.SlowTimeout.{SlowTimeout}
use Rattle.nextest_elements.specs.declared.slow_timeout.SlowTimeoutResult.{SlowTimeoutResult}
use Rattle.nextest_elements.specs.declared.slow_timeout.SlowTimeoutResult.TheVariants as results
use Rattle.nextest_tree.specs.Key.{key_text}
use Rattle.nextest_tree.specs.Node.{Node, table, Entries, get}
use Rattle.nextest_tree.specs.Schema.{FaultCause, Schema, fields, are_noted, Fields, may, must, no_more}
use Rattle.nextest_tree.specs.Leaf.{value, Spells, name_at, leaf_at, leaf_or}
use Rattle.nextest_elements.specs.Nanoseconds.{duration_at, a_duration}
use Rattle.nextest_elements.specs.Positive.{positive_at, a_positive}
use Rattle.nextest_tree.specs.Spelling.{spellings}

-- the name of a result, as it is written
unfoldable pub slow_result_text : SlowTimeoutResult → List ℕ
slow_result_text results.Fail = codes "fail"
slow_result_text results.Pass = codes "pass"

-- the names of the results
unfoldable pub slow_result_names : List (List ℕ × SlowTimeoutResult)
slow_result_names = spellings slow_result_text (results.Fail ∷ results.Pass ∷ [])

-- what is expected of a result
unfoldable pub slow_result_expected : List ℕ
slow_result_expected = codes "`fail`, `pass`"

-- the result of a name
abbrev pub slow_result_at : Node → Result SlowTimeoutResult FaultCause
slow_result_at = name_at slow_result_names slow_result_expected

-- a name of a result
unfoldable pub a_slow_result : Schema
a_slow_result = value slow_result_at

-- a test that is ended fails, where nothing else is said
abbrev pub usual_slow_result : SlowTimeoutResult
usual_slow_result = results.Fail

-- ten seconds
abbrev pub usual_grace_period : ℕ
usual_grace_period = 10000000000

-- the fields of a table: the period must be there
abbrev pub slow_fields : Fields
slow_fields =
    must Period a_duration
    (may TerminateAfter a_positive
    (may GracePeriod a_duration
    (may OnTimeout a_slow_result
    no_more)))

-- what the fields of a table say, where its period is there
abbrev pub slow_table : Entries → Option SlowTimeout
slow_table es = option_map (λ period. record {
  period = period;
  terminate_after = leaf_at positive_at (get (key_text TerminateAfter) es);
  grace_period = leaf_or usual_grace_period duration_at (get (key_text GracePeriod) es);
  on_timeout = leaf_or usual_slow_result slow_result_at (get (key_text OnTimeout) es);
}) (leaf_at duration_at (get (key_text Period) es))

-- a duration, or a table
abbrev pub slow_timeout : Schema
slow_timeout = fields are_noted a_duration slow_fields (λ es. None)

-- a test that takes longer than this is slow, and is never ended
abbrev pub slow_of : ℕ → SlowTimeout
slow_of period = record {
  period = period;
  terminate_after = None;
  grace_period = usual_grace_period;
  on_timeout = usual_slow_result;
}

-- a table means what its fields say, and a duration is the period
abbrev pub IsSlowTimeout : Node → SlowTimeout → Type 0
IsSlowTimeout (table es) slow = slow_table es ≡ Some slow
IsSlowTimeout n slow = (period : ℕ) × Spells duration_at n period × (slow ≡ slow_of period)
