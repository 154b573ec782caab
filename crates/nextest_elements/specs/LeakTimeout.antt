-- How long what a test started may outlive it.
use Rattle.std.specs.Prelude.{◌≡◌, ℕ, List, [], ◌∷◌, Option, Some, None, option_map, Result, codes}
use Rattle.nextest_tree.specs.declared.key.Key.TheVariants.{Period, Result as result_key}
use Rattle.nextest_elements.specs.declared.leak_timeout.LeakTimeout.{LeakTimeout}
use Rattle.nextest_elements.specs.declared.leak_timeout.LeakTimeoutResult.{LeakTimeoutResult}
use Rattle.nextest_elements.specs.declared.leak_timeout.LeakTimeoutResult.TheVariants as results
use Rattle.nextest_tree.specs.Key.{key_text}
use Rattle.nextest_tree.specs.Node.{Node, table, Entries, get}
use Rattle.nextest_tree.specs.Schema.{FaultCause, Schema, fields, are_noted, Fields, may, must, no_more}
use Rattle.nextest_tree.specs.Leaf.{value, Spells, name_at, leaf_at, leaf_or}
use Rattle.nextest_elements.specs.Nanoseconds.{duration_at, a_duration}
use Rattle.nextest_tree.specs.Spelling.{spellings}

-- the name of a result, as it is written
unfoldable pub leak_result_text : LeakTimeoutResult → List ℕ
leak_result_text results.Pass = codes "pass"
leak_result_text results.Fail = codes "fail"

-- the names of the results
unfoldable pub leak_result_names : List (List ℕ × LeakTimeoutResult)
leak_result_names = spellings leak_result_text (results.Pass ∷ results.Fail ∷ [])

-- what is expected of a result
unfoldable pub leak_result_expected : List ℕ
leak_result_expected = codes "`pass`, `fail`"

-- the result of a name
abbrev pub leak_result_at : Node → Result LeakTimeoutResult FaultCause
leak_result_at = name_at leak_result_names leak_result_expected

-- a name of a result
unfoldable pub a_leak_result : Schema
a_leak_result = value leak_result_at

-- the fields of a table: the period must be there
abbrev pub leak_fields : Fields
leak_fields = must Period a_duration (may result_key a_leak_result no_more)

-- a leak is passed over, where nothing else is said
abbrev pub usual_leak_result : LeakTimeoutResult
usual_leak_result = results.Pass

-- what the fields of a table say, where its period is there
abbrev pub leak_table : Entries → Option LeakTimeout
leak_table es = option_map (λ period. record {
  period = period;
  result = leaf_or usual_leak_result leak_result_at (get (key_text result_key) es);
}) (leaf_at duration_at (get (key_text Period) es))

-- a duration, or a table
abbrev pub leak_timeout : Schema
leak_timeout = fields are_noted a_duration leak_fields (λ es. None)

-- a leak of at most this duration is passed over
abbrev pub leak_of : ℕ → LeakTimeout
leak_of period = record { period = period; result = usual_leak_result }

-- a table means what its fields say, and a duration is the period
abbrev pub IsLeakTimeout : Node → LeakTimeout → Type 0
IsLeakTimeout (table es) leak = leak_table es ≡ Some leak
IsLeakTimeout n leak = (period : ℕ) × Spells duration_at n period × (leak ≡ leak_of period)
