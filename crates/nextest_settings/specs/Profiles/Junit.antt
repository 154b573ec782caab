-- The report of a run, as a profile says it.
use Rattle.std.specs.Prelude.{◌≡◌, ℕ, List, Option, None, Some, option_map, option_and_then, string_bytes}
use Rattle.nextest_elements.specs.declared.junit.JunitConfig.{JunitConfig}
use Rattle.nextest_scripts.specs.Paths.{joined_path}
use Rattle.nextest_settings.specs.Profile.{ProfileFacts}
use Rattle.nextest_settings.specs.Settings.{report_path}
use Rattle.nextest_settings.specs.Values.{nearest, in_report}

-- the place of a report: its path in the directory in which the profile stores
abbrev pub report_place : Option (List ℕ) → Option (List ℕ) → Option (List ℕ)
report_place store_dir path =
    option_and_then (λ p. option_map (λ dir. joined_path dir p) store_dir) path

-- A report is that of a profile: it lies at the place of the path that the profile sets, and says
-- what the nearest profiles write.
pub record IsReport (facts : ProfileFacts) (report : JunitConfig) : Type 0 where
  pub path : report_place facts.store_dir (report_path facts.fields)
      ≡ Some (string_bytes report.path)
  pub report_name : nearest (in_report (λ r. r.report_name)) facts.fields
      ≡ Some (string_bytes report.report_name)
  pub store_success_output : nearest (in_report (λ r. r.store_success_output)) facts.fields
      ≡ Some report.store_success_output
  pub store_failure_output : nearest (in_report (λ r. r.store_failure_output)) facts.fields
      ≡ Some report.store_failure_output
  pub report_skipped : nearest (in_report (λ r. r.report_skipped)) facts.fields
      ≡ Some report.report_skipped
  pub flaky_fail_status : nearest (in_report (λ r. r.flaky_fail_status)) facts.fields
      ≡ Some report.flaky_fail_status

-- there is a report exactly if a path is set, and then it is that of the profile
abbrev pub IsReportWhereSet : ProfileFacts → Option JunitConfig → Type 0
IsReportWhereSet facts None = report_path facts.fields ≡ None
IsReportWhereSet facts (Some report) = IsReport facts report
