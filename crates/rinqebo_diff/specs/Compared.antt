-- What changes for the tests that both sides have.
use Rattle.std.specs.Prelude.{◌≡◌, ℕ, ◌+◌, ◌++◌, [], Bool, List, Option, MatchOption, filter_map, length}
use Rattle.std.specs.List.{AllZip}
use Rattle.std.specs.Option.{option_to_list}
use Rattle.nextest_elements.specs.declared.run_mode.NextestRunMode.{NextestRunMode}
use Rattle.nextest_engines.specs.Engines.{Test}
use Rattle.filter_inputs.specs.Lists.Lists.{ListTest}
use Rattle.nextest_settings.specs.Profile.{EvaluatableModel}
use Rattle.nextest_settings.specs.Queries.{query_in}
use Rattle.rinqebo_changes.specs.Changes.{changed_rows, rows_in, IsChangedTest}
use Rattle.rinqebo_changes.specs.declared.change.SideRow.{SideRow}
use Rattle.rinqebo_changes.specs.declared.change.TestChanges.{TestChanges}
use Rattle.rinqebo_report.specs.declared.report.TestRows.{TestRows}
use Rattle.rinqebo_request.specs.declared.request.RequestedSettings.{RequestedSettings}
use Rattle.rinqebo_rules.specs.Rows.{IsTestReported}
use Rattle.rinqebo_origins.specs.TestOrigins.{Basis}
use Rattle.rinqebo_changes.specs.Sides.Matched.{ArePairs, TestPair}
use Rattle.rinqebo_diff.specs.declared.compared.ComparedTests.{ComparedTests}

-- A side reports rows of a test: those that its profile gives to the test.
abbrev pub ReportsBy : {M : Type 0} → (M → Test → M → Bool) → Basis → EvaluatableModel M
    → NextestRunMode → RequestedSettings → ListTest → TestRows → Type 0
ReportsBy matches basis profile mode asked t =
    IsTestReported basis (query_in matches profile t.test) mode profile asked t

-- What changes for a test that both sides have, if something does: each side reports rows of it,
-- and they are compared.
pub record IsComparedBy (left right : ListTest → TestRows → Type 0)
    (changes : SideRow → SideRow → Bool) (with_runs : Bool) (pair : TestPair)
    (result : Option TestChanges) : Type 0 where
  pub before : TestRows
  pub after : TestRows
  pub left_reports : left pair.from before
  pub right_reports : right pair.to after
  pub verdict : MatchOption result
      (changed_rows changes (rows_in with_runs before) (rows_in with_runs after) ≡ [])
      (IsChangedTest changes with_runs before after)

-- What changes for tests that both sides have: each is compared, and those are kept of which a
-- setting changes, in their order.
pub record AreCompared (left right : ListTest → TestRows → Type 0)
    (changes : SideRow → SideRow → Bool) (with_runs : Bool) (pairs : List TestPair)
    (changed : List TestChanges) : Type 0 where
  pub results : List (Option TestChanges)
  pub each : AllZip (IsComparedBy left right changes with_runs) pairs results
  pub kept : changed ≡ filter_map (λ result. result) results

-- What changes for the tests of the right list that the left list has, and how many those are.
pub record AreTestsCompared (left right : ListTest → TestRows → Type 0)
    (changes : SideRow → SideRow → Bool) (with_runs : Bool) (from to : List ListTest)
    (changed : List TestChanges) (count : ℕ) : Type 0 where
  pub pairs : List TestPair
  pub are_pairs : ArePairs from to pairs
  pub are_compared : AreCompared left right changes with_runs pairs changed
  pub counted : count ≡ length pairs

-- A test that both sides have is added to others, with what changes for it, if something does.
pub record AddsTest (result : Option TestChanges) (old new : ComparedTests) : Type 0 where
  pub changed : new.changed.items ≡ old.changed.items ++ option_to_list result
  pub count : new.count ≡ old.count + 1

-- What changes for tests of the right list that the left list has is added to what changes for
-- others, and they are counted.
pub record AddsCompared (left right : ListTest → TestRows → Type 0)
    (changes : SideRow → SideRow → Bool) (with_runs : Bool) (from to : List ListTest)
    (old new : ComparedTests) : Type 0 where
  pub added : List TestChanges
  pub number : ℕ
  pub are : AreTestsCompared left right changes with_runs from to added number
  pub changed : new.changed.items ≡ old.changed.items ++ added
  pub count : new.count ≡ old.count + number
