-- Values of settings as they are reported.
use Rattle.std.specs.Prelude.{ℕ, ℤ, pos, min, ◌^◌, ◌-◌, ◌==◌, ◌&&◌, not, List, [], ◌∷◌, ◌++◌, Bool, true, false, Option, None, Some, map, codes, string_bytes}
use Rattle.nextest_elements.specs.FlakyResult.{flaky_result_text}
use Rattle.nextest_elements.specs.Junit.{report_skip_policy_text, junit_flaky_fail_status_text}
use Rattle.nextest_elements.specs.LeakTimeout.{leak_result_text}
use Rattle.nextest_elements.specs.SlowTimeout.{slow_result_text}
use Rattle.nextest_elements.specs.TestGroup.{group_text}
use Rattle.nextest_elements.specs.TestOutputDisplay.{test_output_display_text}
use Rattle.nextest_elements.specs.ThreadsRequired.{threads_required_text}
use Rattle.nextest_elements.specs.declared.leak_timeout.LeakTimeout.{LeakTimeout}
use Rattle.nextest_elements.specs.declared.retry_policy.RetryPolicy.{RetryPolicy}
use Rattle.nextest_elements.specs.declared.retry_policy.RetryPolicy.TheVariants as policies
use Rattle.nextest_elements.specs.declared.slow_timeout.SlowTimeout.{SlowTimeout}
use Rattle.nextest_elements.specs.declared.threads_required.ThreadsRequired.{ThreadsRequired}
use Rattle.nextest_elements.specs.declared.threads_required.ThreadsRequired.TheVariants as threads
use Rattle.nextest_settings.specs.Settings.{ValueOf}
use Rattle.nextest_settings.specs.SettingValues as kinds
use Rattle.nextest_settings.specs.SettingValues.{ValueByKind, by_kind}
use Rattle.nextest_elements.specs.declared.setting.Setting.{Setting}
use Rattle.rinqebo_report.specs.declared.value.TableMember.{TableMember}
use Rattle.rinqebo_report.specs.declared.value.Scalar.{Scalar}
use Rattle.rinqebo_report.specs.declared.value.Scalar.TheVariants as scalars
use Rattle.rinqebo_report.specs.declared.value.Value.{Value}
use Rattle.rinqebo_report.specs.declared.value.Value.TheVariants as values

-- A value that holds no others: whether something is so, a number, a text, or a length of time in
-- nanoseconds.
pub data ReportedScalar : Type 0 where
  boolean : Bool → ReportedScalar
  integer : ℤ → ReportedScalar
  text : List ℕ → ReportedScalar
  duration : ℕ → ReportedScalar

-- A member of a table.
pub record ReportedField : Type 0 where
  pub key : List ℕ
  pub value : ReportedScalar

-- A value: one that holds no others, texts, or a table.
pub data ReportedValue : Type 0 where
  scalar : ReportedScalar → ReportedValue
  texts : List (List ℕ) → ReportedValue
  table : List ReportedField → ReportedValue

-- what contracts see of a value that holds no others
abbrev pub scalar_view : Scalar → ReportedScalar
scalar_view (scalars.Boolean b) = boolean b
scalar_view (scalars.Integer n) = integer n
scalar_view (scalars.Text t) = text (string_bytes t)
scalar_view (scalars.Duration d) = duration d.nanoseconds

-- what contracts see of a member of a table
abbrev pub field_view : TableMember → ReportedField
field_view f = record { key = string_bytes f.key; value = scalar_view f.value }

-- what contracts see of a value
abbrev pub value_view : Value → ReportedValue
value_view (values.Scalar s) = scalar (scalar_view s)
value_view (values.Texts ts) = texts (map string_bytes ts.items)
value_view (values.Table fs) = table (map field_view fs.items)

-- A report shows a count as a number, the greatest one of TOML where it is greater.
abbrev pub reported_count : ℕ → ReportedScalar
reported_count n = integer (pos (min n (2 ^ 63 - 1)))

-- a table of one member
abbrev pub one : List ℕ → ReportedScalar → List ReportedField
one key value = record { key = key; value = value } ∷ []

-- a member that may be absent
abbrev pub one_if : {X : Type 0} → List ℕ → (X → ReportedScalar) → Option X → List ReportedField
one_if key told None = []
one_if key told (Some x) = one key (told x)

-- that something is so, or nothing
abbrev pub one_if_true : List ℕ → Bool → List ReportedField
one_if_true key false = []
one_if_true key true = one key (boolean true)

-- the members of a retry policy: no jitter is left out
abbrev pub retry_fields : List ℕ → ℕ → ℕ → Bool → Option ℕ → List ReportedField
retry_fields backoff count delay jitter max_delay =
    one (codes "backoff") (text backoff) ++ one (codes "count") (integer (pos count))
    ++ one (codes "delay") (duration delay) ++ one_if_true (codes "jitter") jitter
    ++ one_if (codes "max-delay") duration max_delay

-- a fixed retry policy, by whether it has neither delay nor jitter
abbrev pub fixed_as : Bool → ℕ → ℕ → Bool → ReportedValue
fixed_as true count delay jitter = scalar (integer (pos count))
fixed_as false count delay jitter =
    table (retry_fields (codes "fixed") count delay jitter None)

-- whether a retry policy has neither delay nor jitter
abbrev pub is_plain : ℕ → Bool → Bool
is_plain delay jitter = (delay == 0) && not jitter

-- a fixed retry policy: a count where it has neither delay nor jitter
abbrev pub reported_fixed : ℕ → ℕ → Bool → ReportedValue
reported_fixed count delay jitter = fixed_as (is_plain delay jitter) count delay jitter

-- a retry policy
abbrev pub reported_retries : RetryPolicy → ReportedValue
reported_retries (policies.Fixed count delay jitter) = reported_fixed count delay jitter
reported_retries (policies.Exponential count delay jitter max_delay) =
    table (retry_fields (codes "exponential") count delay jitter max_delay)

-- a slow timeout
abbrev pub reported_slow : SlowTimeout → ReportedValue
reported_slow slow = table (one (codes "period") (duration slow.period)
    ++ one_if (codes "terminate-after") reported_count slow.terminate_after
    ++ one (codes "grace-period") (duration slow.grace_period)
    ++ one (codes "on-timeout") (text (slow_result_text slow.on_timeout)))

-- a leak timeout
abbrev pub reported_leak : LeakTimeout → ReportedValue
reported_leak leak = table (one (codes "period") (duration leak.period)
    ++ one (codes "result") (text (leak_result_text leak.result)))

-- how many threads a test takes
abbrev pub reported_threads : ThreadsRequired → ReportedScalar
reported_threads (threads.Count n) = reported_count n
reported_threads threads.NumCpus = text (threads_required_text threads.NumCpus)
reported_threads threads.NumTestThreads = text (threads_required_text threads.NumTestThreads)

-- A report shows a value by its kind.
abbrev pub told : ValueByKind → ReportedValue
told (kinds.priority value) = scalar (integer value.0)
told (kinds.threads value) = scalar (reported_threads value)
told (kinds.wrapper id) = scalar (text id)
told (kinds.arguments items) = texts items
told (kinds.retries policy) = reported_retries policy
told (kinds.flaky_result result) = scalar (text (flaky_result_text result))
told (kinds.slow_timeout timeout) = reported_slow timeout
told (kinds.leak_timeout timeout) = reported_leak timeout
told (kinds.group value) = scalar (text (group_text value))
told (kinds.output display) = scalar (text (test_output_display_text display))
told (kinds.is_stored value) = scalar (boolean value)
told (kinds.skipped policy) = scalar (text (report_skip_policy_text policy))
told (kinds.flaky_fail_status status) = scalar (text (junit_flaky_fail_status_text status))

-- the value of a setting, as a report shows it
abbrev pub reported_of : (s : Setting) → ValueOf s → ReportedValue
reported_of s value = told (by_kind s value)
