-- Settings as numbers.
use Rattle.std.specs.Prelude.{ℕ, ◌/◌, ◌%◌, ◌^◌, pos, Bool, true, false, Option, None, Some, is_some, unwrap_or}
use Rattle.nextest_elements.specs.declared.flaky_result.FlakyResult.{FlakyResult}
use Rattle.nextest_elements.specs.declared.flaky_result.FlakyResult.TheVariants as flaky
use Rattle.nextest_elements.specs.declared.junit.JunitFlakyFailStatus.{JunitFlakyFailStatus}
use Rattle.nextest_elements.specs.declared.junit.JunitFlakyFailStatus.TheVariants as marks
use Rattle.nextest_elements.specs.declared.junit.ReportSkipPolicy.{ReportSkipPolicy}
use Rattle.nextest_elements.specs.declared.junit.ReportSkipPolicy.TheVariants as policies
use Rattle.nextest_elements.specs.declared.leak_timeout.LeakTimeout.{LeakTimeout}
use Rattle.nextest_elements.specs.declared.leak_timeout.LeakTimeoutResult.{LeakTimeoutResult}
use Rattle.nextest_elements.specs.declared.leak_timeout.LeakTimeoutResult.TheVariants as leaks
use Rattle.nextest_elements.specs.declared.retry_policy.RetryPolicy.{RetryPolicy}
use Rattle.nextest_elements.specs.declared.retry_policy.RetryPolicy.TheVariants as retries
use Rattle.nextest_elements.specs.declared.slow_timeout.SlowTimeout.{SlowTimeout}
use Rattle.nextest_elements.specs.declared.slow_timeout.SlowTimeoutResult.{SlowTimeoutResult}
use Rattle.nextest_elements.specs.declared.slow_timeout.SlowTimeoutResult.TheVariants as ends
use Rattle.nextest_elements.specs.declared.test_output_display.TestOutputDisplay.{TestOutputDisplay}
use Rattle.nextest_elements.specs.declared.test_output_display.TestOutputDisplay.TheVariants as shown
use Rattle.nextest_elements.specs.declared.test_threads.TestThreads.{TestThreads}
use Rattle.nextest_elements.specs.declared.test_threads.TestThreads.TheVariants as threads
use Rattle.nextest_elements.specs.declared.threads_required.ThreadsRequired.{ThreadsRequired}
use Rattle.nextest_elements.specs.declared.threads_required.ThreadsRequired.TheVariants as required
use Rattle.rinqebo_forms.specs.declared.numbers.Duration.{Duration}
use Rattle.rinqebo_forms.specs.declared.numbers.RetryNumbers.{RetryNumbers}
use Rattle.rinqebo_forms.specs.declared.numbers.ThreadNumbers.{ThreadNumbers}
use Rattle.rinqebo_forms.specs.declared.numbers.SlowNumbers.{SlowNumbers}
use Rattle.rinqebo_forms.specs.declared.numbers.LeakNumbers.{LeakNumbers}
use Rattle.rinqebo_forms.specs.declared.numbers.GroupThreads.{GroupThreads}

-- a flag: 1 for true
abbrev pub flag_number : Bool → ℕ
flag_number true = 1
flag_number false = 0

-- a duration in nanoseconds: its part below 2 ^ 64, and how often 2 ^ 64 is in it
abbrev pub duration_numbers : ℕ → Duration
duration_numbers n = record { low = n % 2 ^ 64; high = n / 2 ^ 64 }

-- how often a failed test is run again: with equal delays, or with delays that grow up to a longest
abbrev pub retry_numbers : RetryPolicy → RetryNumbers
retry_numbers (retries.Fixed count delay jitter) = record {
  backoff = 0;
  count = count;
  delay = duration_numbers delay;
  jitter = flag_number jitter;
  has_max_delay = 0;
  max_delay = duration_numbers 0;
}
retry_numbers (retries.Exponential count delay jitter max_delay) = record {
  backoff = 1;
  count = count;
  delay = duration_numbers delay;
  jitter = flag_number jitter;
  has_max_delay = flag_number (is_some max_delay);
  max_delay = duration_numbers (unwrap_or max_delay 0);
}

-- how many threads a test takes: a count, or as many as there are processors or test threads
abbrev pub thread_numbers : ThreadsRequired → ThreadNumbers
thread_numbers (required.Count n) = record { kind = 0; count = n }
thread_numbers required.NumCpus = record { kind = 1; count = 0 }
thread_numbers required.NumTestThreads = record { kind = 2; count = 0 }

-- the result of a test that is terminated
abbrev pub end_number : SlowTimeoutResult → ℕ
end_number ends.Fail = 0
end_number ends.Pass = 1

-- when a test counts as slow, and when it is terminated
abbrev pub slow_numbers : SlowTimeout → SlowNumbers
slow_numbers t = record {
  period = duration_numbers t.period;
  terminate_after = unwrap_or t.terminate_after 0;
  grace_period = duration_numbers t.grace_period;
  on_timeout = end_number t.on_timeout;
}

-- the result of a leaky test
abbrev pub leak_number : LeakTimeoutResult → ℕ
leak_number leaks.Pass = 0
leak_number leaks.Fail = 1

-- when a test counts as leaky
abbrev pub leak_numbers : LeakTimeout → LeakNumbers
leak_numbers t = record { period = duration_numbers t.period; result = leak_number t.result }

-- when the output of a test is shown
abbrev pub output_number : TestOutputDisplay → ℕ
output_number shown.Immediate = 0
output_number shown.ImmediateFinal = 1
output_number shown.Final = 2
output_number shown.Never = 3

-- the result of a test that passes at a later attempt
abbrev pub flaky_number : FlakyResult → ℕ
flaky_number flaky.Pass = 0
flaky_number flaky.Fail = 1

-- whether a report lists skipped tests
abbrev pub report_number : ReportSkipPolicy → ℕ
report_number policies.None = 0
report_number policies.All = 1

-- how a report marks a flaky test that counts as failed
abbrev pub status_number : JunitFlakyFailStatus → ℕ
status_number marks.Failure = 0
status_number marks.Success = 1

-- how many tests of a group run at a time, if there is one
abbrev pub group_numbers : Option TestThreads → GroupThreads
group_numbers (Some (threads.Count n)) = record { kind = 0; count = n }
group_numbers (Some threads.NumCpus) = record { kind = 1; count = pos 0 }
group_numbers None = record { kind = 2; count = pos 0 }
