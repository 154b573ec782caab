-- The values of a chain: what code holds of each field of the nearest profile that writes it.
use Rattle.std.specs.Borrow.{Bor}
use Rattle.std.specs.Prelude.{◌≡◌, ℕ, List, [], ◌∷◌, map, unwrap_or, Option, None, Some, false, option_map, string_bytes, IsSome}
use Rattle.nextest_elements.specs.declared.global_timeout.GlobalTimeout.{GlobalTimeout}
use Rattle.nextest_elements.specs.declared.junit.JunitFlakyFailStatus.TheVariants as statuses
use Rattle.nextest_elements.specs.declared.junit.ReportSkipPolicy.TheVariants as skips
use Rattle.nextest_elements.specs.declared.run_mode.NextestRunMode.{NextestRunMode}
use Rattle.nextest_elements.specs.declared.run_mode.NextestRunMode.TheVariants.{Test, Benchmark}
use Rattle.nextest_elements.specs.declared.slow_timeout.SlowTimeout.{SlowTimeout}
use Rattle.nextest_load.specs.Complete.{IsComplete}
use Rattle.nextest_tables.specs.Written.{WrittenFields, WrittenReport}
use Rattle.nextest_settings.specs.declared.values.TestValues.{TestValues}
use Rattle.nextest_settings.specs.declared.values.RunValues.{RunValues}
use Rattle.nextest_settings.specs.declared.values.StoredValues.{StoredValues}
use Rattle.nextest_settings.specs.declared.values.ReportValues.{ReportValues}
use Rattle.nextest_settings.specs.declared.values.BenchValues.{BenchValues}
use Rattle.nextest_settings.specs.declared.values.ProfileValues.{ProfileValues}
use Rattle.nextest_settings.specs.Values.{nearest, in_report, in_bench}

-- values of tests are those of the nearest profiles
pub record AreTestValues (fs : List WrittenFields) (v : TestValues) : Type 0 where
  pub retries : nearest (λ f. f.retries) fs ≡ Some v.retries
  pub flaky_result : nearest (λ f. f.flaky_result) fs ≡ Some v.flaky_result
  pub threads_required : nearest (λ f. f.threads_required) fs ≡ Some v.threads_required
  pub run_extra_args : nearest (λ f. f.run_extra_args) fs
      ≡ Some (map string_bytes v.run_extra_args.now)
  pub slow_timeout : nearest (λ f. f.slow_timeout) fs ≡ Some v.slow_timeout
  pub leak_timeout : nearest (λ f. f.leak_timeout) fs ≡ Some v.leak_timeout
  pub success_output : nearest (λ f. f.success_output) fs ≡ Some v.success_output
  pub failure_output : nearest (λ f. f.failure_output) fs ≡ Some v.failure_output

-- values of the whole run are those of the nearest profiles
pub record AreRunValues (fs : List WrittenFields) (v : RunValues) : Type 0 where
  pub test_threads : nearest (λ f. f.test_threads) fs ≡ Some v.test_threads
  pub status_level : nearest (λ f. f.status_level) fs ≡ Some v.status_level
  pub final_status_level : nearest (λ f. f.final_status_level) fs ≡ Some v.final_status_level
  pub max_fail : nearest (λ f. f.max_fail) fs ≡ Some v.max_fail
  pub global_timeout : nearest (λ f. f.global_timeout) fs ≡ Some v.global_timeout

-- a report says all that it stores
pub record SaysAllStored (r : WrittenReport) : Type 0 where
  pub success_output : IsSome r.store_success_output
  pub failure_output : IsSome r.store_failure_output
  pub skipped : IsSome r.report_skipped
  pub flaky_fail_status : IsSome r.flaky_fail_status

-- a report says that it stores this
pub record ReportSaysStored (r : WrittenReport) (v : StoredValues) : Type 0 where
  pub success_output : r.store_success_output ≡ Some v.success_output
  pub failure_output : r.store_failure_output ≡ Some v.failure_output
  pub skipped : r.report_skipped ≡ Some v.skipped
  pub flaky_fail_status : r.flaky_fail_status ≡ Some v.flaky_fail_status

-- what a report stores is what the nearest profiles say
pub record AreStoredValues (fs : List WrittenFields) (v : StoredValues) : Type 0 where
  pub success_output : nearest (in_report (λ r. r.store_success_output)) fs
      ≡ Some v.success_output
  pub failure_output : nearest (in_report (λ r. r.store_failure_output)) fs
      ≡ Some v.failure_output
  pub skipped : nearest (in_report (λ r. r.report_skipped)) fs ≡ Some v.skipped
  pub flaky_fail_status : nearest (in_report (λ r. r.flaky_fail_status)) fs
      ≡ Some v.flaky_fail_status

-- values of a report are those of the nearest profiles; its path is there if one sets it
pub record AreReportValues (fs : List WrittenFields) (v : ReportValues) : Type 0 where
  pub path : nearest (in_report (λ r. r.path)) fs ≡ option_map (λ path. path.now) v.path
  pub name : nearest (in_report (λ r. r.report_name)) fs ≡ Some v.name.now
  pub stored : AreStoredValues fs v.stored

-- values of benchmarks are those of the nearest profiles
pub record AreBenchValues (fs : List WrittenFields) (v : BenchValues) : Type 0 where
  pub slow_timeout : nearest (in_bench (λ b. b.slow_timeout)) fs ≡ Some v.slow_timeout
  pub global_timeout : nearest (in_bench (λ b. b.global_timeout)) fs ≡ Some v.global_timeout

-- Values are those of a chain: each field is that of the nearest profile which writes it.
pub record AreValues (fs : List WrittenFields) (v : ProfileValues) : Type 0 where
  pub tests : AreTestValues fs v.tests
  pub run : AreRunValues fs v.run
  pub report : AreReportValues fs v.report
  pub bench : AreBenchValues fs v.bench

-- The last profile of a chain writes every field.
abbrev pub EndsComplete : List WrittenFields → Type 0
EndsComplete [] = ⊥
EndsComplete (f ∷ []) = IsComplete f
EndsComplete (f ∷ g ∷ fs) = EndsComplete (g ∷ fs)

-- what a report stores, over what reports further on store
abbrev pub stored_over : WrittenReport → StoredValues → StoredValues
stored_over near further = record {
  success_output = unwrap_or near.store_success_output further.success_output;
  failure_output = unwrap_or near.store_failure_output further.failure_output;
  skipped = unwrap_or near.report_skipped further.skipped;
  flaky_fail_status = unwrap_or near.flaky_fail_status further.flaky_fail_status;
}

-- what is stored where no path is set
abbrev pub nothing_stored : StoredValues
nothing_stored = record {
  success_output = false;
  failure_output = false;
  skipped = skips.None;
  flaky_fail_status = statuses.Failure;
}

-- what a report stores by its path: nothing where none is set
abbrev pub stored_by : Option (Bor (List ℕ)) → StoredValues → StoredValues
stored_by None stored = nothing_stored
stored_by (Some path) stored = stored

-- what a report stores
abbrev pub stored_in : ReportValues → StoredValues
stored_in v = stored_by v.path v.stored

-- the slow timeout of a mode
abbrev pub slow_timeout_of : ProfileValues → NextestRunMode → SlowTimeout
slow_timeout_of v Test = v.tests.slow_timeout
slow_timeout_of v Benchmark = v.bench.slow_timeout

-- the timeout of a whole run in a mode
abbrev pub global_timeout_of : ProfileValues → NextestRunMode → GlobalTimeout
global_timeout_of v Test = v.run.global_timeout
global_timeout_of v Benchmark = v.bench.global_timeout
