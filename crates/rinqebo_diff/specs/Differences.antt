-- What changes from one side to another.
use Rattle.std.specs.Prelude.{◌≡◌, ℕ, not, List, Option, length, filter, string_bytes, if◌then◌else◌}
use Rattle.std.specs.List.{AllZip}
use Rattle.nextest_elements.specs.declared.run_mode.NextestRunMode.{NextestRunMode}
use Rattle.filter_inputs.specs.Lists.Lists.{Listed, ListTest, list_tests}
use Rattle.filter_inputs.specs.Lists.ListView.{list_view}
use Rattle.rinqebo_changes.specs.Changes.{is_change}
use Rattle.rinqebo_changes.specs.Diffs.{is_empty}
use Rattle.rinqebo_changes.specs.declared.diff.BinaryTests.{BinaryTests}
use Rattle.rinqebo_changes.specs.declared.diff.Diff.{Diff}
use Rattle.rinqebo_request.specs.declared.files.gathering.Gathered.{Gathered}
use Rattle.rinqebo_load.specs.Sessions.{readings}
use Rattle.rinqebo_report.specs.declared.report.TestId.{TestId}
use Rattle.rinqebo_report.specs.declared.report.TestRows.{TestRows}
use Rattle.rinqebo_request.specs.declared.request.RequestedSettings.{RequestedSettings}
use Rattle.rinqebo_results.specs.ListedBy.{basis_of}
use Rattle.rinqebo_rules.specs.Rows.{shown_platform}
use Rattle.rinqebo_diff.specs.Asked.{compares_runs}
use Rattle.rinqebo_diff.specs.Compared.{AreCompared, ReportsBy}
use Rattle.rinqebo_changes.specs.Sides.Matched.{TestPair, ArePairs, is_in}
use Rattle.rinqebo_diff.specs.RunChanges.{AreRunChangesIf}
use Rattle.rinqebo_diff.specs.Sides.{Evaluation, IsEvaluationOf, IsSideOf}
use Rattle.rinqebo_diff.specs.Written.{IsRendered, ReportsDiff}
use Rattle.rinqebo_diff.specs.declared.request.DiffRequest.{DiffRequest}

-- a side reports rows of a test: whether it runs, and the settings that are requested, as its
-- profile gives them to the test
abbrev pub SideReports : Evaluation → NextestRunMode → RequestedSettings → ListTest → TestRows
    → Type 0
SideReports evaluation mode asked =
    ReportsBy (readings evaluation.session.engines.filters).matches_test
    (basis_of evaluation.session evaluation.chain) evaluation.profile mode asked

-- A name is that of a test, with the platform that its binary is built for.
pub record IsIdOf (t : ListTest) (id : TestId) : Type 0 where
  pub binary : string_bytes id.binary ≡ t.test.binary.binary_id
  pub name : string_bytes id.name ≡ t.test.name
  pub platform : id.platform ≡ shown_platform t.test.binary.platform

-- the tests of a side
abbrev pub tests_of : Evaluation → List ListTest
tests_of evaluation = list_tests (list_view evaluation.session.tests)

-- A binary of a list, and how many tests it has.
pub record IsCountOf (binary : Listed) (count : BinaryTests) : Type 0 where
  pub id : string_bytes count.binary ≡ binary.binary.binary_id
  pub tests : count.tests ≡ length binary.tests

-- A diff is that of two sides: it has the tests that both have and of which a setting changes, from
-- what the left side reports to what the right side does; those of the left side alone, which are
-- removed, and those of the right side alone, which are added; and what changes for the whole run.
pub record IsDiffOf (request : DiffRequest) (left right : Evaluation) (diff : Diff) : Type 0 where
  pub from : IsSideOf request.from left diff.from
  pub to : IsSideOf request.to right diff.to
  pub pairs : List TestPair
  pub are_pairs : ArePairs (tests_of left) (tests_of right) pairs
  pub changed : AreCompared (SideReports left request.from.mode request.compared.asked)
      (SideReports right request.to.mode request.compared.asked)
      (is_change diff.from.sources.items diff.to.sources.items request.with_origins)
      (compares_runs request.compared.asked) pairs diff.changed.items
  pub compared : diff.compared ≡ length pairs
  pub binaries : AllZip IsCountOf (list_view right.session.tests).binaries diff.binaries.items
  pub removed : AllZip IsIdOf (filter (λ t. not (is_in (tests_of right) t)) (tests_of left))
      diff.removed.items
  pub added : AllZip IsIdOf (filter (λ t. not (is_in (tests_of left) t)) (tests_of right))
      diff.added.items
  pub run : AreRunChangesIf request.with_run left right diff.run.items

-- A diff is that of a request, over the files that its sides name, by what they mean.
pub record Differs (request : DiffRequest) (from to : Gathered) (diff : Diff) : Type 0 where
  pub left : Evaluation
  pub right : Evaluation
  pub is_left : IsEvaluationOf request.from from left
  pub is_right : IsEvaluationOf request.to to right
  pub is_diff : IsDiffOf request left right diff

-- the exit status: 0 exactly if nothing changes
abbrev pub diff_status : Diff → ℕ
diff_status diff = if is_empty diff then 0 else 1

-- A text is what a request prints, over the files that its sides name.
pub record IsPageOf (request : DiffRequest) (from to : Gathered) (text : List ℕ) : Type 0 where
  pub diff : Diff
  pub differs : Differs request from to diff
  pub is_text : IsRendered request diff text

-- A request has its result: what changes is written, and the status says whether something does.
pub record HasResult (request : DiffRequest) (from to : Gathered) (status : ℕ)
    (before after : Option (List ℕ)) : Type 0 where
  pub diff : Diff
  pub differs : Differs request from to diff
  pub is_status : status ≡ diff_status diff
  pub page : ReportsDiff request diff before after
