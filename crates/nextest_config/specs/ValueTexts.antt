-- How values are spelled where a row shows them: one definition for each kind of value.
use Rattle.std.specs.Prelude.{ℕ, List, ◌++◌, Bool, Option, None, Some, option_map, codes, if◌then◌else◌}
use Rattle.std.specs.Fmt.{decimal, signed_decimal}
use Rattle.std.specs.List.{join_by}
use Rattle.nextest_elements.specs.FlakyResult.{flaky_result_text}
use Rattle.nextest_elements.specs.Junit.{report_skip_policy_text, junit_flaky_fail_status_text}
use Rattle.nextest_elements.specs.LeakTimeout.{leak_result_text}
use Rattle.nextest_elements.specs.SlowTimeout.{slow_result_text}
use Rattle.nextest_elements.specs.TestGroup.{group_text}
use Rattle.nextest_elements.specs.TestOutputDisplay.{test_output_display_text}
use Rattle.nextest_elements.specs.ThreadsRequired.{threads_required_text}
use Rattle.nextest_elements.specs.declared.leak_timeout.LeakTimeout.{LeakTimeout}
use Rattle.nextest_elements.specs.declared.retry_policy.RetryPolicy.{RetryPolicy}
use Rattle.nextest_elements.specs.declared.retry_policy.RetryPolicy.TheVariants as policies
use Rattle.nextest_elements.specs.declared.slow_timeout.SlowTimeout.{SlowTimeout}
use Rattle.nextest_settings.specs.Settings.{ValueOf}
use Rattle.nextest_settings.specs.SettingValues as kinds
use Rattle.nextest_settings.specs.SettingValues.{ValueByKind, by_kind}
use Rattle.nextest_elements.specs.declared.setting.Setting.{Setting}
use Rattle.nextest_tables.specs.Written.{Arguments}

-- A duration is spelled in whole nanoseconds, with their unit.
abbrev pub duration_text : ℕ → List ℕ
duration_text nanoseconds = decimal nanoseconds ++ codes "ns"

-- Whether something is so is spelled `true` or `false`.
abbrev pub bool_text : Bool → List ℕ
bool_text b = if b then codes "true" else codes "false"

-- What may be absent is spelled as what is there, and else `none`.
abbrev pub optional_text : {X : Type 0} → (X → List ℕ) → Option X → List ℕ
optional_text spelled None = codes "none"
optional_text spelled (Some x) = spelled x

-- Arguments are spelled as they are, between brackets, parted by one space.
abbrev pub arguments_text : Arguments → List ℕ
arguments_text arguments =
    codes "[" ++ join_by (λ argument. argument) (codes " ") arguments ++ codes "]"

-- A retry policy is spelled by its kind and its fields.
abbrev pub retries_text : RetryPolicy → List ℕ
retries_text (policies.Fixed count delay jitter) =
    codes "fixed count=" ++ decimal count
    ++ codes " delay=" ++ duration_text delay
    ++ codes " jitter=" ++ bool_text jitter
retries_text (policies.Exponential count delay jitter max_delay) =
    codes "exponential count=" ++ decimal count
    ++ codes " delay=" ++ duration_text delay
    ++ codes " jitter=" ++ bool_text jitter
    ++ codes " max-delay=" ++ optional_text duration_text max_delay

-- A slow timeout is spelled by its fields.
abbrev pub slow_timeout_text : SlowTimeout → List ℕ
slow_timeout_text slow =
    codes "period=" ++ duration_text slow.period
    ++ codes " terminate-after=" ++ optional_text decimal slow.terminate_after
    ++ codes " grace-period=" ++ duration_text slow.grace_period
    ++ codes " on-timeout=" ++ slow_result_text slow.on_timeout

-- A leak timeout is spelled by its fields.
abbrev pub leak_timeout_text : LeakTimeout → List ℕ
leak_timeout_text leak =
    codes "period=" ++ duration_text leak.period
    ++ codes " result=" ++ leak_result_text leak.result

-- A value is spelled by its kind.
abbrev pub kind_text : ValueByKind → List ℕ
kind_text (kinds.priority value) = signed_decimal value.0
kind_text (kinds.threads value) = threads_required_text value
kind_text (kinds.wrapper id) = id
kind_text (kinds.arguments texts) = arguments_text texts
kind_text (kinds.retries policy) = retries_text policy
kind_text (kinds.flaky_result result) = flaky_result_text result
kind_text (kinds.slow_timeout timeout) = slow_timeout_text timeout
kind_text (kinds.leak_timeout timeout) = leak_timeout_text timeout
kind_text (kinds.group value) = group_text value
kind_text (kinds.output display) = test_output_display_text display
kind_text (kinds.is_stored value) = bool_text value
kind_text (kinds.skipped policy) = report_skip_policy_text policy
kind_text (kinds.flaky_fail_status status) = junit_flaky_fail_status_text status

-- The value of a setting in a row is spelled by its kind, and where there is none, as `none`.
abbrev pub value_text : (s : Setting) → Option (ValueOf s) → List ℕ
value_text s value = optional_text kind_text (option_map (by_kind s) value)
