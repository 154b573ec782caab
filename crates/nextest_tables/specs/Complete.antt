-- A profile that writes every field but the path of its report, and when `default` does.
use Rattle.std.specs.Prelude.{◌≡◌, List, [], Some, option_and_then, IsSome}
use Rattle.std.specs.BTreeMap.{is_at}
use Rattle.std.specs.Cmp.Lexicographic.{slice_cmp}
use Rattle.std.specs.List.{AllByRecursion}
use Rattle.std.specs.Map.{lookup}
use Rattle.std.specs.Ordering.{nat_cmp}
use Rattle.nextest_documents.specs.Merge.{over, merged}
use Rattle.nextest_tree.specs.Node.{Node}
use Rattle.nextest_tree.specs.Schema.{faults}
use Rattle.nextest_tables.specs.Defaults.{defaults}
use Rattle.nextest_tables.specs.FileTexts.{ProfileText, FileText}
use Rattle.nextest_tables.specs.Tables.{a_file}
use Rattle.nextest_tables.specs.Written.{WrittenFields, default_name}

-- A profile is complete: it writes every field but the path of its report.
pub record IsComplete (f : WrittenFields) : Type 0 where
  pub retries : IsSome f.retries
  pub flaky_result : IsSome f.flaky_result
  pub test_threads : IsSome f.test_threads
  pub threads_required : IsSome f.threads_required
  pub run_extra_args : IsSome f.run_extra_args
  pub status_level : IsSome f.status_level
  pub final_status_level : IsSome f.final_status_level
  pub failure_output : IsSome f.failure_output
  pub success_output : IsSome f.success_output
  pub max_fail : IsSome f.max_fail
  pub slow_timeout : IsSome f.slow_timeout
  pub global_timeout : IsSome f.global_timeout
  pub leak_timeout : IsSome f.leak_timeout
  pub report_name : IsSome (option_and_then (λ r. r.report_name) f.junit)
  pub store_success_output : IsSome (option_and_then (λ r. r.store_success_output) f.junit)
  pub store_failure_output : IsSome (option_and_then (λ r. r.store_failure_output) f.junit)
  pub report_skipped : IsSome (option_and_then (λ r. r.report_skipped) f.junit)
  pub flaky_fail_status : IsSome (option_and_then (λ r. r.flaky_fail_status) f.junit)
  pub bench_slow_timeout : IsSome (option_and_then (λ b. b.slow_timeout) f.bench)
  pub bench_global_timeout : IsSome (option_and_then (λ b. b.global_timeout) f.bench)

-- The profile `default` of a file is there, and it is complete.
pub record HasCompleteDefault (f : FileText) : Type 0 where
  pub profile : ProfileText
  pub there : lookup (is_at (slice_cmp nat_cmp default_name)) f.profiles ≡ Some profile
  pub complete : IsComplete profile.fields

-- a file has no fault over the defaults
abbrev pub IsReadable : Node → Type 0
IsReadable n = faults a_file [] (over n defaults) ≡ []

-- files, each without fault over the defaults, make this tree: they are laid over the defaults, the
-- lowest first
abbrev pub IsMergedTree : List Node → Node → Type 0
IsMergedTree files n = AllByRecursion IsReadable files × (n ≡ merged defaults files)
