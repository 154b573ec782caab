-- The values of settings by their kind, and what a profile writes for each setting.
use Rattle.std.specs.Prelude.{Bool, false, Option, None, Some, map, pos, string_bytes}
use Rattle.nextest_elements.specs.declared.flaky_result.FlakyResult.{FlakyResult}
use Rattle.nextest_elements.specs.declared.junit.JunitFlakyFailStatus.{JunitFlakyFailStatus}
use Rattle.nextest_elements.specs.declared.junit.JunitFlakyFailStatus.TheVariants as statuses
use Rattle.nextest_elements.specs.declared.junit.ReportSkipPolicy.{ReportSkipPolicy}
use Rattle.nextest_elements.specs.declared.junit.ReportSkipPolicy.TheVariants as skips
use Rattle.nextest_elements.specs.declared.leak_timeout.LeakTimeout.{LeakTimeout}
use Rattle.nextest_elements.specs.declared.retry_policy.RetryPolicy.{RetryPolicy}
use Rattle.nextest_elements.specs.declared.run_mode.NextestRunMode.{NextestRunMode}
use Rattle.nextest_elements.specs.declared.run_mode.NextestRunMode.TheVariants.{Test, Benchmark}
use Rattle.nextest_elements.specs.declared.slow_timeout.SlowTimeout.{SlowTimeout}
use Rattle.nextest_elements.specs.declared.test_group.TestGroup.{TestGroup}
use Rattle.nextest_elements.specs.declared.test_group.TestGroup.TheVariants.{Global}
use Rattle.nextest_elements.specs.declared.test_output_display.TestOutputDisplay.{TestOutputDisplay}
use Rattle.nextest_elements.specs.declared.test_priority.TestPriority.{TestPriority}
use Rattle.nextest_elements.specs.declared.threads_required.ThreadsRequired.{ThreadsRequired}
use Rattle.nextest_scripts.specs.ScriptId.{script_text}
use Rattle.nextest_tables.specs.Written.{Name, Arguments, WrittenFields}
use Rattle.nextest_elements.specs.declared.setting.Setting.{Setting}
use Rattle.nextest_elements.specs.declared.setting.Setting.TheVariants as at
use Rattle.nextest_settings.specs.declared.setting_value.SettingValue.{SettingValue}
use Rattle.nextest_settings.specs.declared.setting_value.SettingValue.TheVariants as held
use Rattle.nextest_settings.specs.Settings.{ValueOf}
use Rattle.nextest_settings.specs.Values.{in_report, in_bench}

-- The value of a setting by its kind: settings whose values are alike share a kind.
pub data ValueByKind : Type 0 where
  priority : TestPriority → ValueByKind
  threads : ThreadsRequired → ValueByKind
  wrapper : Name → ValueByKind
  arguments : Arguments → ValueByKind
  retries : RetryPolicy → ValueByKind
  flaky_result : FlakyResult → ValueByKind
  slow_timeout : SlowTimeout → ValueByKind
  leak_timeout : LeakTimeout → ValueByKind
  group : TestGroup → ValueByKind
  output : TestOutputDisplay → ValueByKind
  is_stored : Bool → ValueByKind
  skipped : ReportSkipPolicy → ValueByKind
  flaky_fail_status : JunitFlakyFailStatus → ValueByKind

-- what contracts see of a value that code holds
abbrev pub setting_value_view : SettingValue → ValueByKind
setting_value_view (held.Priority value) = priority value
setting_value_view (held.Threads value) = threads value
setting_value_view (held.Wrapper id) = wrapper (script_text id.now)
setting_value_view (held.Arguments texts) = arguments (map string_bytes texts.now)
setting_value_view (held.Retries policy) = retries policy
setting_value_view (held.FlakyResult result) = flaky_result result
setting_value_view (held.SlowTimeout timeout) = slow_timeout timeout
setting_value_view (held.LeakTimeout timeout) = leak_timeout timeout
setting_value_view (held.Group value) = group value.now
setting_value_view held.GlobalGroup = group Global
setting_value_view (held.Output display) = output display
setting_value_view (held.IsStored value) = is_stored value
setting_value_view (held.Skipped policy) = skipped policy
setting_value_view (held.FlakyFailStatus status) = flaky_fail_status status

-- a value of a setting, by its kind
abbrev pub by_kind : (s : Setting) → ValueOf s → ValueByKind
by_kind at.Priority value = priority value
by_kind at.ThreadsRequired value = threads value
by_kind at.RunWrapper id = wrapper id
by_kind at.RunExtraArgs texts = arguments texts
by_kind at.Retries policy = retries policy
by_kind at.FlakyResult result = flaky_result result
by_kind at.SlowTimeout timeout = slow_timeout timeout
by_kind at.LeakTimeout timeout = leak_timeout timeout
by_kind at.TestGroup value = group value
by_kind at.SuccessOutput display = output display
by_kind at.FailureOutput display = output display
by_kind at.JunitStoreSuccessOutput value = is_stored value
by_kind at.JunitStoreFailureOutput value = is_stored value
by_kind at.JunitReportSkipped policy = skipped policy
by_kind at.JunitFlakyFailStatus status = flaky_fail_status status

-- the slow timeout that a profile writes in a mode: benchmarks have their own
abbrev pub profile_timeout : WrittenFields → NextestRunMode → Option SlowTimeout
profile_timeout f Test = f.slow_timeout
profile_timeout f Benchmark = in_bench (λ bench. bench.slow_timeout) f

-- what a profile writes for a setting, in a mode: no priority, no wrapper and no group
abbrev pub profile_sets : WrittenFields → NextestRunMode → (s : Setting) → Option (ValueOf s)
profile_sets f mode at.Priority = None
profile_sets f mode at.ThreadsRequired = f.threads_required
profile_sets f mode at.RunWrapper = None
profile_sets f mode at.RunExtraArgs = f.run_extra_args
profile_sets f mode at.Retries = f.retries
profile_sets f mode at.FlakyResult = f.flaky_result
profile_sets f mode at.SlowTimeout = profile_timeout f mode
profile_sets f mode at.LeakTimeout = f.leak_timeout
profile_sets f mode at.TestGroup = None
profile_sets f mode at.SuccessOutput = f.success_output
profile_sets f mode at.FailureOutput = f.failure_output
profile_sets f mode at.JunitStoreSuccessOutput = in_report (λ r. r.store_success_output) f
profile_sets f mode at.JunitStoreFailureOutput = in_report (λ r. r.store_failure_output) f
profile_sets f mode at.JunitReportSkipped = in_report (λ r. r.report_skipped) f
profile_sets f mode at.JunitFlakyFailStatus = in_report (λ r. r.flaky_fail_status) f

-- the value of a setting whatever profiles write, if it has one: priority 0, the global group, and
-- where no report is written, nothing stored in one
abbrev pub stated_value : (has_report : Bool) → (s : Setting) → Option (ValueOf s)
stated_value has_report at.Priority = Some (record { 0 = pos 0 })
stated_value has_report at.TestGroup = Some Global
stated_value false at.JunitStoreSuccessOutput = Some false
stated_value false at.JunitStoreFailureOutput = Some false
stated_value false at.JunitReportSkipped = Some skips.None
stated_value false at.JunitFlakyFailStatus = Some statuses.Failure
stated_value has_report s = None
