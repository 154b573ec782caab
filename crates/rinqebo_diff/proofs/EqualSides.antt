-- Nothing changes between a side and itself.
use Rattle.std.proofs.Common.{◌≡◌, ◌∙◌, ◌&&◌, ◌==◌, Bool, true, false, cond, List, [], ◌∷◌, Option, None, Some, MatchOption, length, refl, sym, ap, subst}
use Rattle.std.specs.List.{AllByRecursion, AllZip, filter_map}
use Rattle.nextest_elements.specs.declared.run_mode.NextestRunMode.{NextestRunMode}
use Rattle.filter_inputs.specs.Lists.Lists.{ListTest}
use Rattle.rinqebo_report.specs.declared.origin.Source.{Source}
use Rattle.rinqebo_report.specs.declared.report.TestId.{TestId}
use Rattle.rinqebo_report.specs.declared.report.TestRows.{TestRows}
use Rattle.rinqebo_request.specs.declared.request.RequestedSettings.{RequestedSettings}
use Rattle.rinqebo_changes.specs.Changes.{changed_rows, is_change, rows_in, IsChangedTest}
use Rattle.rinqebo_changes.specs.Diffs.{is_empty}
use Rattle.rinqebo_changes.specs.declared.change.RowChange.{RowChange}
use Rattle.rinqebo_changes.specs.declared.change.SideRow.{SideRow}
use Rattle.rinqebo_changes.specs.declared.change.TestChanges.{TestChanges}
use Rattle.rinqebo_changes.specs.declared.diff.Diff.{Diff}
use Rattle.rinqebo_changes.proofs.EqualRows.{alike_none, none_differ}
use Rattle.rinqebo_changes.proofs.LikeSources.{unchanged}
use Rattle.rinqebo_diff.specs.Asked.{compares_runs}
use Rattle.rinqebo_diff.specs.Compared.{AreCompared, IsComparedBy}
use Rattle.rinqebo_diff.specs.Differences.{SideReports, tests_of, IsDiffOf, IsIdOf, diff_status}
use Rattle.rinqebo_diff.specs.EqualSides.{NoTestChanges}
use Rattle.rinqebo_diff.specs.RunChanges.{AreRunChangesIf}
use Rattle.rinqebo_diff.specs.Sides.{Evaluation}
use Rattle.rinqebo_diff.specs.TurnedSides.{ComeAlike, SaySame}
use Rattle.rinqebo_diff.specs.declared.request.DiffRequest.{DiffRequest}
use Rattle.rinqebo_diff.proofs.OneOrigins.{AreFiles}
use Rattle.rinqebo_diff.proofs.OneRun.{one_run}
use Rattle.rinqebo_diff.proofs.ReportedTwice.{steady, steady_alike}
use Rattle.rinqebo_diff.proofs.TurnedTests.{IsSteady}
use Rattle.rinqebo_changes.proofs.Own.{own_tests}
use Rattle.rinqebo_changes.specs.Sides.Matched.{ArePairs, IsOneTest, TestPair}
use Rattle.rinqebo_changes.specs.Sides.Own.{NamesOnce}

module _ (reports : ListTest → TestRows → Type 0) (runs : Bool) (Alike : SideRow → SideRow → Type 0)
    (test : SideRow → SideRow → Bool) (same : (a b : SideRow) → Alike a b → test a b ≡ false)
    (is_steady : IsSteady reports runs Alike) where
  by_verdict : (before after : TestRows) (r : Option TestChanges)
      → MatchOption r (changed_rows test (rows_in runs before) (rows_in runs after) ≡ [])
      (IsChangedTest test runs before after)
      → changed_rows test (rows_in runs before) (rows_in runs after) ≡ [] → r ≡ None
  by_verdict before after None verdict none = refl
  by_verdict before after (Some found) verdict none = absurd (verdict.some (verdict.rows ∙ none))

  no_result : (pair : TestPair) (result : Option TestChanges) → IsOneTest pair
      → IsComparedBy reports reports test runs pair result → result ≡ None
  no_result pair result one are =
      let right : reports pair.from are.after = subst (λ t. reports t are.after) (sym one.same) are.right_reports in
      by_verdict are.before are.after result are.verdict
      (none_differ test Alike same (rows_in runs are.before) (rows_in runs are.after)
      (is_steady.twice pair.from are.before are.after are.left_reports right))

  nothing_kept : (r : Option TestChanges) (rs : List (Option TestChanges)) → r ≡ None
      → filter_map (λ r. r) rs ≡ [] → filter_map (λ r. r) (r ∷ rs) ≡ []
  nothing_kept None rs none rest = rest
  nothing_kept (Some x) rs none rest = absurd (cc)

  no_results : (pairs : List TestPair) (results : List (Option TestChanges)) → AllByRecursion IsOneTest pairs
      → AllZip (IsComparedBy reports reports test runs) pairs results → filter_map (λ r. r) results ≡ []
  no_results [] [] one all = refl
  no_results [] (r ∷ rs) one all = absurd all
  no_results (p ∷ ps) [] one all = absurd all
  no_results (p ∷ ps) (r ∷ rs) one all =
      nothing_kept r rs (no_result p r one.0 all.0) (no_results ps rs one.1 all.1)

  none_changed : (pairs : List TestPair) (changed : List TestChanges) → AllByRecursion IsOneTest pairs
      → AreCompared reports reports test runs pairs changed → changed ≡ []
  none_changed pairs changed one are = are.kept ∙ no_results pairs are.results one are.each

  -- no test changes of a list, compared with itself
  none_of_list : (tests : List ListTest) (pairs : List TestPair) (changed : List TestChanges) → NamesOnce tests
      → ArePairs tests tests pairs → AreCompared reports reports test runs pairs changed → NoTestChanges tests changed
  none_of_list tests pairs changed once are compared =
      let own = own_tests tests pairs once are in
      record { none_changed = none_changed pairs changed own.each compared; none_alone = own.alone }

-- rows that say the same do not change, where origins do not count
said_same : (files others : List Source) (a b : SideRow) → SaySame a b → is_change files others false a b ≡ false
said_same files others a b one = unchanged files others false a b one.value (λ e. absurd (cc))

pub no_test_changes : (side : Evaluation) (mode : NextestRunMode) (asked : RequestedSettings) (files others : List Source)
    (pairs : List TestPair) (changed : List TestChanges) → NamesOnce (tests_of side)
    → ArePairs (tests_of side) (tests_of side) pairs
    → AreCompared (SideReports side mode asked) (SideReports side mode asked) (is_change files others false)
    (compares_runs asked) pairs changed → NoTestChanges (tests_of side) changed
no_test_changes side mode asked files others pairs changed once are compared =
    none_of_list (SideReports side mode asked) (compares_runs asked) SaySame (is_change files others false)
    (said_same files others) (steady side mode asked) (tests_of side) pairs changed once are compared

-- nothing is beside nothing
nothing_beside : {A B : Type 0} (R : A → B → Type 0) (ys : List B) → AllZip R [] ys → ys ≡ []
nothing_beside R [] all = refl
nothing_beside R (y ∷ ys) all = absurd all

none_alone : (tests : List ListTest) (ids : List TestId) → tests ≡ [] → AllZip IsIdOf tests ids → ids ≡ []
none_alone tests ids none all = nothing_beside IsIdOf ids (subst (λ ts. AllZip IsIdOf ts ids) none all)

no_run : (with_run : Bool) (side : Evaluation) (changes : List RowChange)
    → AreRunChangesIf with_run side side changes → changes ≡ []
no_run false side changes none = none
no_run true side changes are =
    alike_none are.before are.after changes
    (one_run side are.before are.after are.are_before are.are_after) are.are_changes

-- nothing changes from a side to itself, if none of its tests changes
nothing_by : (request : DiffRequest) (side : Evaluation) (diff : Diff) → IsDiffOf request side side diff
    → NoTestChanges (tests_of side) diff.changed.items → diff_status diff ≡ 0
nothing_by request side diff is none =
    let removed : diff.removed.items ≡ [] = none_alone _ diff.removed.items none.none_alone is.removed in
    let added : diff.added.items ≡ [] = none_alone _ diff.added.items none.none_alone is.added in
    let run : diff.run.items ≡ [] = no_run request.with_run side diff.run.items is.run in
    let empty : is_empty diff ≡ true =
    λ i. ((length (none.none_changed i) == 0 && length (removed i) == 0) && length (added i) == 0) && length (run i) == 0 in
    ap (λ b. cond b 0 1) empty

-- nothing changes from a side to itself
pub nothing_changes : (request : DiffRequest) (side : Evaluation) (diff : Diff) → request.with_origins ≡ false
    → request.from.mode ≡ request.to.mode → NamesOnce (tests_of side)
    → IsDiffOf request side side diff → diff_status diff ≡ 0
nothing_changes request side diff plain modes once is =
    let asked = request.compared.asked in
    let files = diff.from.sources.items in
    let others = diff.to.sources.items in
    let compared : AreCompared (SideReports side request.to.mode asked) (SideReports side request.to.mode asked)
    (is_change files others false) (compares_runs asked) is.pairs diff.changed.items =
    subst (λ mode. AreCompared (SideReports side mode asked) (SideReports side request.to.mode asked)
    (is_change files others false) (compares_runs asked) is.pairs diff.changed.items) modes
    (subst (λ with. AreCompared (SideReports side request.from.mode asked) (SideReports side request.to.mode asked)
    (is_change files others with) (compares_runs asked) is.pairs diff.changed.items) plain is.changed) in
    nothing_by request side diff is
    (no_test_changes side request.to.mode asked files others is.pairs diff.changed.items once is.are_pairs compared)

-- and so it is of a side of files, where origins count
pub nothing_comes : (request : DiffRequest) (side : Evaluation) (diff : Diff) → AreFiles side.session.layers.items
    → request.from.mode ≡ request.to.mode → NamesOnce (tests_of side)
    → IsDiffOf request side side diff → diff_status diff ≡ 0
nothing_comes request side diff are_files modes once is =
    let asked = request.compared.asked in
    let with = request.with_origins in
    let files = diff.from.sources.items in
    let others = diff.to.sources.items in
    let compared : AreCompared (SideReports side request.to.mode asked) (SideReports side request.to.mode asked)
    (is_change files others with) (compares_runs asked) is.pairs diff.changed.items =
    subst (λ mode. AreCompared (SideReports side mode asked) (SideReports side request.to.mode asked)
    (is_change files others with) (compares_runs asked) is.pairs diff.changed.items) modes is.changed in
    nothing_by request side diff is
    (none_of_list (SideReports side request.to.mode asked) (compares_runs asked) (ComeAlike files others)
    (is_change files others with) (λ a b one. unchanged files others with a b one.said.value (λ counts. one.source))
    (steady_alike side request.to.mode asked files others is.from.sources is.to.sources are_files) (tests_of side)
    is.pairs diff.changed.items once is.are_pairs compared)
