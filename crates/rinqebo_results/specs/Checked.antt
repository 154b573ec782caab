-- The exit status of a check, and what its report shows.
use Rattle.std.specs.Prelude.{◌≡◌, ◌⊎◌, ◌++◌, ℕ, Bool, true, false, ◌&&◌, ◌||◌, not, ◌==◌, List, length, if◌then◌else◌}
use Rattle.std.specs.List.{list_any}
use Rattle.nextest_sources.specs.Warnings.{Warning}
use Rattle.rinqebo_checks.specs.Faults.{ShowsRefused}
use Rattle.rinqebo_findings.specs.NextestForms.{ReportForms}
use Rattle.rinqebo_findings.specs.Shown.{AreReported}
use Rattle.rinqebo_findings.specs.Warnings.{ReportWarnings}
use Rattle.rinqebo_load.specs.Accepted.{AreAccepted}
use Rattle.rinqebo_load.specs.Warned.{warnings_met}
use Rattle.rinqebo_load.specs.declared.session.Session.{Session}
use Rattle.rinqebo_report.specs.declared.finding.Finding.{Finding}
use Rattle.rinqebo_report.specs.declared.finding.Level.{Level}
use Rattle.rinqebo_report.specs.declared.finding.Level.TheVariants as levels
use Rattle.rinqebo_report.specs.declared.report.Report.{Report}
use Rattle.rinqebo_request.specs.declared.files.layers.Layer.{Layer}

-- whether a level is that of errors
abbrev pub is_error_level : Level → Bool
is_error_level levels.Error = true
is_error_level levels.Warning = false

-- whether a finding is an error
abbrev pub is_error : Finding → Bool
is_error finding = is_error_level finding.level

-- The status of a check whose load accepts: 1 exactly if a finding is an error, or there is one
-- and warnings are denied.
abbrev pub accepted_status : Bool → List Finding → ℕ
accepted_status denies findings =
    if list_any is_error findings || (denies && not (length findings == 0)) then 1 else 0

-- Findings are those of files that a load accepts: those for its warnings, one after another, then
-- one for each thing that nextest refuses in the files, and no others.
pub record AreOfAccepted (layers : List Layer) (warnings : List Warning) (findings : List Finding)
    : Type 0 where
  pub told : List Finding
  pub reports : ReportWarnings layers warnings told
  pub forms : List Finding
  pub refused : ReportForms layers forms
  pub are : findings ≡ told ++ forms

-- A report shows these findings, each once and in their order, and no others.
pub record ShowsAccepted (layers : List Layer) (warnings : List Warning) (shown : List Finding)
    : Type 0 where
  pub found : List Finding
  pub all : AreOfAccepted layers warnings found
  pub shows : AreReported found shown

-- The status of a check: 3 only if some rule does not hold of the files, and then the report
-- shows all that is wrong with their values, and what loads refuse; and another one only if all
-- rules hold, and then the report shows the findings of files that a load accepts, which decide it.
pub record IsCheckStatus (session : Session) (denies : Bool) (report : Report) (status : ℕ)
    : Type 0 where
  pub refused : status ≡ 3 → ¬ AreAccepted session
  pub accepted : (status ≡ 0) ⊎ (status ≡ 1) → AreAccepted session
  pub is_status : (status ≡ 0) ⊎ (status ≡ 1) ⊎ (status ≡ 3)
  pub faults : status ≡ 3 → ShowsRefused session report.findings.items
  pub found : (status ≡ 0) ⊎ (status ≡ 1)
      → ShowsAccepted session.layers.items (warnings_met session) report.findings.items
  pub by_findings : (status ≡ 3) ⊎ (status ≡ accepted_status denies report.findings.items)
