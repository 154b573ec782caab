-- Setup scripts: their commands, timeouts and outputs.
use Rattle.std.specs.Prelude.{◌≡◌, ℕ, List, [], ◌∷◌, true, false, Option, Some, None, option_map, Result, codes}
use Rattle.nextest_tree.specs.declared.key.Key.TheVariants as keys
use Rattle.nextest_tree.specs.Key.{key_text}
use Rattle.nextest_tree.specs.Leaf.{value, Spells, name_at, bool_at, a_bool, leaf_at, leaf_or}
use Rattle.nextest_tree.specs.Node.{Node, table, Entries, get}
use Rattle.nextest_tree.specs.Reads.{IsOptional}
use Rattle.nextest_tree.specs.Schema.{FaultCause, Schema, fields, are_noted, struct, Fields, no_more, may, must}
use Rattle.nextest_elements.specs.Nanoseconds.{duration_at, a_duration}
use Rattle.nextest_elements.specs.LeakTimeout.{leak_timeout, IsLeakTimeout}
use Rattle.nextest_elements.specs.Positive.{positive_at, a_positive}
use Rattle.nextest_elements.specs.SlowTimeout.{usual_grace_period}
use Rattle.nextest_scripts.specs.Command.{a_command, IsCommand}
use Rattle.nextest_scripts.specs.declared.setup_script.SetupScriptConfig.{SetupScriptConfig}
use Rattle.nextest_scripts.specs.declared.setup_script.SetupScriptJunitConfig.{SetupScriptJunitConfig}
use Rattle.nextest_scripts.specs.declared.setup_timeout.SetupScriptSlowTimeout.{SetupScriptSlowTimeout}
use Rattle.nextest_scripts.specs.declared.setup_timeout.SetupTimeoutResult.{SetupTimeoutResult}
use Rattle.nextest_scripts.specs.declared.setup_timeout.SetupTimeoutResult.TheVariants.{Fail}

-- The result of a setup script that is terminated: it fails, and never passes.
unfoldable pub setup_result_names : List (List ℕ × SetupTimeoutResult)
setup_result_names = (codes "fail", Fail) ∷ []

-- What a refusal says was expected.
unfoldable pub setup_result_expected : List ℕ
setup_result_expected = codes "`fail`"

-- The result of a setup script that is terminated, as a node spells it.
abbrev pub setup_result_at : Node → Result SetupTimeoutResult FaultCause
setup_result_at = name_at setup_result_names setup_result_expected

-- The one name of the result of a setup script that is ended.
unfoldable pub a_setup_result : Schema
a_setup_result = value setup_result_at

-- The fields of a setup script's timeout: those of a test's.
abbrev pub setup_timeout_fields : Fields
setup_timeout_fields =
    must keys.Period a_duration
    (may keys.TerminateAfter a_positive
    (may keys.GracePeriod a_duration
    (may keys.OnTimeout a_setup_result
    no_more)))

-- What the fields of a table say, where its period is there.
abbrev pub setup_timeout_table : Entries → Option SetupScriptSlowTimeout
setup_timeout_table es = option_map (λ period. record {
  period = period;
  terminate_after = leaf_at positive_at (get (key_text keys.TerminateAfter) es);
  grace_period = leaf_or usual_grace_period duration_at (get (key_text keys.GracePeriod) es);
}) (leaf_at duration_at (get (key_text keys.Period) es))

-- A duration, or a table.
abbrev pub a_setup_timeout : Schema
a_setup_timeout = fields are_noted a_duration setup_timeout_fields (λ es. None)

-- A setup script that takes longer than this is slow, and is never ended.
abbrev pub setup_timeout_of : ℕ → SetupScriptSlowTimeout
setup_timeout_of period = record {
  period = period;
  terminate_after = None;
  grace_period = usual_grace_period;
}

-- A table means what its fields say, and a duration is the period.
abbrev pub IsSetupTimeout : Node → SetupScriptSlowTimeout → Type 0
IsSetupTimeout (table es) slow = setup_timeout_table es ≡ Some slow
IsSetupTimeout n slow =
    (period : ℕ) × Spells duration_at n period × (slow ≡ setup_timeout_of period)

-- The fields of what a report keeps of a setup script.
abbrev pub setup_junit_fields : Fields
setup_junit_fields =
    may keys.StoreSuccessOutput a_bool (may keys.StoreFailureOutput a_bool no_more)

-- A report that keeps all outputs.
abbrev pub full_setup_junit : SetupScriptJunitConfig
full_setup_junit = record { store_success_output = true; store_failure_output = true }

-- What the fields of a report's table say: outputs are kept where nothing else is said.
abbrev pub setup_junit_table : Entries → SetupScriptJunitConfig
setup_junit_table es = record {
  store_success_output = leaf_or full_setup_junit.store_success_output bool_at
      (get (key_text keys.StoreSuccessOutput) es);
  store_failure_output = leaf_or full_setup_junit.store_failure_output bool_at
      (get (key_text keys.StoreFailureOutput) es);
}

-- A table of these fields.
abbrev pub a_setup_junit : Schema
a_setup_junit = struct setup_junit_fields

-- What the table that is at a key says of a report, which keeps all where there is none.
abbrev pub setup_junit_at : Option Node → SetupScriptJunitConfig
setup_junit_at (Some (table es)) = setup_junit_table es
setup_junit_at _ = full_setup_junit

-- The fields of a setup script beside its command.
abbrev pub setup_option_fields : Fields
setup_option_fields =
    may keys.SlowTimeout a_setup_timeout
    (may keys.LeakTimeout leak_timeout
    (may keys.CaptureStdout a_bool
    (may keys.CaptureStderr a_bool
    (may keys.Junit a_setup_junit
    no_more))))

-- The fields of a setup script.
abbrev pub setup_script_fields : Fields
setup_script_fields = must keys.Command a_command setup_option_fields

-- A table of these fields.
unfoldable pub a_setup_script : Schema
a_setup_script = struct setup_script_fields

-- A setup script's table spells its command and its timeouts; outputs are captured only if it
-- says so.
pub record IsSetupScript (es : Entries) (script : SetupScriptConfig) : Type 0 where
  pub command : IsOptional IsCommand (get (key_text keys.Command) es) (Some script.command)
  pub slow_timeout : IsOptional IsSetupTimeout (get (key_text keys.SlowTimeout) es)
      script.slow_timeout
  pub leak_timeout : IsOptional IsLeakTimeout (get (key_text keys.LeakTimeout) es)
      script.leak_timeout
  pub capture_stdout : script.capture_stdout
      ≡ leaf_or false bool_at (get (key_text keys.CaptureStdout) es)
  pub capture_stderr : script.capture_stderr
      ≡ leaf_or false bool_at (get (key_text keys.CaptureStderr) es)
  pub junit : script.junit ≡ setup_junit_at (get (key_text keys.Junit) es)
