-- What overrides and profiles write: for each setting and field a value, if they write one.
use Rattle.std.specs.Prelude.{ℕ, List, Bool, Option, codes}
use Rattle.nextest_elements.specs.declared.bench.BenchConfig.{BenchConfig}
use Rattle.nextest_elements.specs.declared.bench.BenchOverride.{BenchOverride}
use Rattle.nextest_elements.specs.declared.flaky_result.FlakyResult.{FlakyResult}
use Rattle.nextest_elements.specs.declared.global_timeout.GlobalTimeout.{GlobalTimeout}
use Rattle.nextest_elements.specs.declared.junit.JunitFlakyFailStatus.{JunitFlakyFailStatus}
use Rattle.nextest_elements.specs.declared.junit.JunitOverride.{JunitOverride}
use Rattle.nextest_elements.specs.declared.junit.ReportSkipPolicy.{ReportSkipPolicy}
use Rattle.nextest_elements.specs.declared.leak_timeout.LeakTimeout.{LeakTimeout}
use Rattle.nextest_elements.specs.declared.max_fail.MaxFail.{MaxFail}
use Rattle.nextest_elements.specs.declared.retry_policy.RetryPolicy.{RetryPolicy}
use Rattle.nextest_elements.specs.declared.slow_timeout.SlowTimeout.{SlowTimeout}
use Rattle.nextest_elements.specs.declared.status_level.FinalStatusLevel.{FinalStatusLevel}
use Rattle.nextest_elements.specs.declared.status_level.StatusLevel.{StatusLevel}
use Rattle.nextest_elements.specs.declared.test_group.TestGroup.{TestGroup}
use Rattle.nextest_elements.specs.declared.test_output_display.TestOutputDisplay.{TestOutputDisplay}
use Rattle.nextest_elements.specs.declared.test_priority.TestPriority.{TestPriority}
use Rattle.nextest_elements.specs.declared.test_threads.TestThreads.{TestThreads}
use Rattle.nextest_elements.specs.declared.threads_required.ThreadsRequired.{ThreadsRequired}

-- the name of a profile or of a group
abbrev pub Name : Type 0
Name = List ℕ

-- the profile that every configuration has
abbrev pub default_name : Name
default_name = codes "default"

-- the arguments that a test is given, as texts
abbrev pub Arguments : Type 0
Arguments = List (List ℕ)

-- what an override writes for each setting
pub record WrittenSettings : Type 0 where
  pub priority : Option TestPriority
  pub threads_required : Option ThreadsRequired
  pub run_extra_args : Option Arguments
  pub retries : Option RetryPolicy
  pub flaky_result : Option FlakyResult
  pub slow_timeout : Option SlowTimeout
  pub leak_timeout : Option LeakTimeout
  pub test_group : Option TestGroup
  pub success_output : Option TestOutputDisplay
  pub failure_output : Option TestOutputDisplay
  pub junit : Option JunitOverride
  pub bench : Option BenchOverride

-- what a profile writes of its report
pub record WrittenReport : Type 0 where
  pub path : Option (List ℕ)
  pub report_name : Option (List ℕ)
  pub store_success_output : Option Bool
  pub store_failure_output : Option Bool
  pub report_skipped : Option ReportSkipPolicy
  pub flaky_fail_status : Option JunitFlakyFailStatus

-- what a profile writes for each of its fields
pub record WrittenFields : Type 0 where
  pub retries : Option RetryPolicy
  pub flaky_result : Option FlakyResult
  pub test_threads : Option TestThreads
  pub threads_required : Option ThreadsRequired
  pub run_extra_args : Option Arguments
  pub status_level : Option StatusLevel
  pub final_status_level : Option FinalStatusLevel
  pub failure_output : Option TestOutputDisplay
  pub success_output : Option TestOutputDisplay
  pub max_fail : Option MaxFail
  pub slow_timeout : Option SlowTimeout
  pub global_timeout : Option GlobalTimeout
  pub leak_timeout : Option LeakTimeout
  pub junit : Option WrittenReport
  pub bench : Option BenchConfig
