-- What a rule writes for each setting, and what counts where none does: a row for each setting.
use Rattle.std.specs.Prelude.{ℕ, List, Bool, false, is_some, Option, None, Some, option_and_then, pos}
use Rattle.nextest_elements.specs.declared.flaky_result.FlakyResult.{FlakyResult}
use Rattle.nextest_elements.specs.declared.global_timeout.GlobalTimeout.{GlobalTimeout}
use Rattle.nextest_elements.specs.declared.junit.JunitFlakyFailStatus.{JunitFlakyFailStatus}
use Rattle.nextest_elements.specs.declared.junit.JunitFlakyFailStatus.TheVariants as statuses
use Rattle.nextest_elements.specs.declared.junit.ReportSkipPolicy.{ReportSkipPolicy}
use Rattle.nextest_elements.specs.declared.junit.ReportSkipPolicy.TheVariants as skips
use Rattle.nextest_elements.specs.declared.leak_timeout.LeakTimeout.{LeakTimeout}
use Rattle.nextest_elements.specs.declared.retry_policy.RetryPolicy.{RetryPolicy}
use Rattle.nextest_elements.specs.declared.run_mode.NextestRunMode.{NextestRunMode}
use Rattle.nextest_elements.specs.declared.run_mode.NextestRunMode.TheVariants.{Test, Benchmark}
use Rattle.nextest_elements.specs.declared.slow_timeout.SlowTimeout.{SlowTimeout}
use Rattle.nextest_elements.specs.declared.test_group.TestGroup.{TestGroup}
use Rattle.nextest_elements.specs.declared.test_group.TestGroup.TheVariants.{Global}
use Rattle.nextest_elements.specs.declared.test_output_display.TestOutputDisplay.{TestOutputDisplay}
use Rattle.nextest_elements.specs.declared.test_priority.TestPriority.{TestPriority}
use Rattle.nextest_elements.specs.declared.threads_required.ThreadsRequired.{ThreadsRequired}
use Rattle.nextest_tables.specs.Written.{Name, Arguments, WrittenSettings, WrittenFields}
use Rattle.nextest_elements.specs.declared.setting.Setting.{Setting}
use Rattle.nextest_elements.specs.declared.setting.Setting.TheVariants as at
use Rattle.nextest_settings.specs.Values.{nearest, in_report, in_bench}

-- the value of a setting; that of the run wrapper is the id of a script
abbrev pub ValueOf : Setting → Type 0
ValueOf at.Priority = TestPriority
ValueOf at.ThreadsRequired = ThreadsRequired
ValueOf at.RunWrapper = Name
ValueOf at.RunExtraArgs = Arguments
ValueOf at.Retries = RetryPolicy
ValueOf at.FlakyResult = FlakyResult
ValueOf at.SlowTimeout = SlowTimeout
ValueOf at.LeakTimeout = LeakTimeout
ValueOf at.TestGroup = TestGroup
ValueOf at.SuccessOutput = TestOutputDisplay
ValueOf at.FailureOutput = TestOutputDisplay
ValueOf at.JunitStoreSuccessOutput = Bool
ValueOf at.JunitStoreFailureOutput = Bool
ValueOf at.JunitReportSkipped = ReportSkipPolicy
ValueOf at.JunitFlakyFailStatus = JunitFlakyFailStatus

-- the slow timeout that a rule writes: for benchmarks only the one that it writes for them
abbrev pub slow_timeout_written : WrittenSettings → NextestRunMode → Option SlowTimeout
slow_timeout_written written Test = written.slow_timeout
slow_timeout_written written Benchmark =
    option_and_then (λ bench. bench.slow_timeout) written.bench

-- what an override writes for a setting, in a mode: it names no wrapper
abbrev pub sets : WrittenSettings → NextestRunMode → (s : Setting) → Option (ValueOf s)
sets written mode at.Priority = written.priority
sets written mode at.ThreadsRequired = written.threads_required
sets written mode at.RunWrapper = None
sets written mode at.RunExtraArgs = written.run_extra_args
sets written mode at.Retries = written.retries
sets written mode at.FlakyResult = written.flaky_result
sets written mode at.SlowTimeout = slow_timeout_written written mode
sets written mode at.LeakTimeout = written.leak_timeout
sets written mode at.TestGroup = written.test_group
sets written mode at.SuccessOutput = written.success_output
sets written mode at.FailureOutput = written.failure_output
sets written mode at.JunitStoreSuccessOutput =
    option_and_then (λ report. report.store_success_output) written.junit
sets written mode at.JunitStoreFailureOutput =
    option_and_then (λ report. report.store_failure_output) written.junit
sets written mode at.JunitReportSkipped =
    option_and_then (λ report. report.report_skipped) written.junit
sets written mode at.JunitFlakyFailStatus =
    option_and_then (λ report. report.flaky_fail_status) written.junit

-- whether an override writes a setting, in a mode
abbrev pub is_set : WrittenSettings → NextestRunMode → Setting → Bool
is_set written mode s = is_some (sets written mode s)

-- the slow timeout of profiles in a mode: benchmarks have their own
abbrev pub slow_timeout_in : List WrittenFields → NextestRunMode → Option SlowTimeout
slow_timeout_in fs Test = nearest (λ f. f.slow_timeout) fs
slow_timeout_in fs Benchmark = nearest (in_bench (λ b. b.slow_timeout)) fs

-- the timeout of a whole run in a mode: benchmarks have their own
abbrev pub global_timeout_in : List WrittenFields → NextestRunMode → Option GlobalTimeout
global_timeout_in fs Test = nearest (λ f. f.global_timeout) fs
global_timeout_in fs Benchmark = nearest (in_bench (λ b. b.global_timeout)) fs

-- what a report stores: what profiles say where one sets a path, and else nothing
abbrev pub if_reported : {X : Type 0} → Option (List ℕ) → Option X → X → Option X
if_reported None stored nothing = Some nothing
if_reported (Some path) stored nothing = stored

-- the path of the report of profiles, if one sets it
abbrev pub report_path : List WrittenFields → Option (List ℕ)
report_path fs = nearest (in_report (λ r. r.path)) fs

-- The value of a setting where no rule gives one: priority 0, no wrapper, the global group, and
-- else what the nearest profile says; a report without a path stores nothing.
abbrev pub fallback_of : List WrittenFields → NextestRunMode → (s : Setting) → Option (ValueOf s)
fallback_of fs mode at.Priority = Some (record { 0 = pos 0 })
fallback_of fs mode at.ThreadsRequired = nearest (λ f. f.threads_required) fs
fallback_of fs mode at.RunWrapper = None
fallback_of fs mode at.RunExtraArgs = nearest (λ f. f.run_extra_args) fs
fallback_of fs mode at.Retries = nearest (λ f. f.retries) fs
fallback_of fs mode at.FlakyResult = nearest (λ f. f.flaky_result) fs
fallback_of fs mode at.SlowTimeout = slow_timeout_in fs mode
fallback_of fs mode at.LeakTimeout = nearest (λ f. f.leak_timeout) fs
fallback_of fs mode at.TestGroup = Some Global
fallback_of fs mode at.SuccessOutput = nearest (λ f. f.success_output) fs
fallback_of fs mode at.FailureOutput = nearest (λ f. f.failure_output) fs
fallback_of fs mode at.JunitStoreSuccessOutput =
    if_reported (report_path fs) (nearest (in_report (λ r. r.store_success_output)) fs) false
fallback_of fs mode at.JunitStoreFailureOutput =
    if_reported (report_path fs) (nearest (in_report (λ r. r.store_failure_output)) fs) false
fallback_of fs mode at.JunitReportSkipped =
    if_reported (report_path fs) (nearest (in_report (λ r. r.report_skipped)) fs) skips.None
fallback_of fs mode at.JunitFlakyFailStatus =
    if_reported (report_path fs) (nearest (in_report (λ r. r.flaky_fail_status)) fs)
    statuses.Failure
