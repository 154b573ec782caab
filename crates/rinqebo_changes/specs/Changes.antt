-- What changes for a test.
use Rattle.std.specs.Prelude.{◌≡◌, ◌≢◌, ℕ, ◌&&◌, ◌||◌, not, Bool, true, false, List, [], ◌∷◌, ◌++◌, Some, option_map, map, filter, slice_get}
use Rattle.std.specs.Bool.{beq}
use Rattle.std.specs.List.{enumerate_from, zip}
use Rattle.std.specs.Option.{option_eq}
use Rattle.rinqebo_report.specs.declared.origin.Source.{Source}
use Rattle.rinqebo_report.specs.declared.report.SettingRow.{SettingRow}
use Rattle.rinqebo_report.specs.declared.report.TestRows.{TestRows}
use Rattle.rinqebo_changes.specs.declared.change.RowChange.{RowChange}
use Rattle.rinqebo_changes.specs.declared.change.SideRow.{SideRow}
use Rattle.rinqebo_changes.specs.declared.change.TestChanges.{TestChanges}
use Rattle.rinqebo_changes.specs.Same.{same_value}
use Rattle.rinqebo_changes.specs.SameOrigin.{like_origins}
use Rattle.rinqebo_changes.specs.ValueViews.{value_view}

-- whether a value comes from the lists on both sides, or from origins that are alike
abbrev pub like_source_of : List Source → List Source → SideRow → SideRow → Bool
like_source_of sources others from to =
    beq from.is_ignored to.is_ignored
    && (from.is_ignored || like_origins sources others from.row.origins.items to.row.origins.items)

-- whether a setting changes: its value does, or, where that counts, the same value comes from
-- elsewhere
abbrev pub is_change : List Source → List Source → Bool → SideRow → SideRow → Bool
is_change sources others with_origins from to =
    not (option_eq same_value from.row.value to.row.value)
    || (with_origins && not (like_source_of sources others from to))

-- a row of a side that its list does not decide
abbrev pub side_row : SettingRow → SideRow
side_row row = record { row = row; is_ignored = false }

-- the row of whether a test runs, where that is compared
abbrev pub runs_in : Bool → SideRow → List SideRow
runs_in true runs = runs ∷ []
runs_in false runs = []

-- the rows of a test: whether it runs, which a list may decide, where that is compared, and then
-- the settings
abbrev pub rows_in : Bool → TestRows → List SideRow
rows_in with_runs test =
    runs_in with_runs (record { row = test.runs; is_ignored = test.is_ignored })
    ++ map side_row test.settings.items

-- a row of the left side beside that of the right side, with their position
abbrev pub change_of : ℕ × (SideRow × SideRow) → RowChange
change_of p = record { place = p.0; from = p.1.0; to = p.1.1 }

-- the rows of the two sides beside each other, each with its position, in order
abbrev pub rows_beside : List SideRow → List SideRow → List RowChange
rows_beside from to = map change_of (enumerate_from 0 (zip from to))

-- the rows that change, each with its position, in order
abbrev pub changed_rows : (SideRow → SideRow → Bool) → List SideRow → List SideRow
    → List RowChange
changed_rows changes from to = filter (λ c. changes c.from c.to) (rows_beside from to)

-- What changes for a test: the test is named as the right side has it, and the rows are those that
-- change, each once, in order.
pub record IsChangedTest (changes : SideRow → SideRow → Bool) (with_runs : Bool)
    (from to : TestRows) (changed : TestChanges) : Type 0 where
  pub test : changed.test ≡ record { binary = to.binary; name = to.name; platform = to.platform }
  pub rows : changed.rows.items ≡ changed_rows changes (rows_in with_runs from)
      (rows_in with_runs to)
  pub some : changed.rows.items ≢ []

-- Two sides give a test different values at a place among its rows.
pub record DiffersAt (from to : List SideRow) (place : ℕ) (left right : SideRow) : Type 0 where
  pub left_row : slice_get from place ≡ Some left
  pub right_row : slice_get to place ≡ Some right
  pub differs : option_map value_view left.row.value ≢ option_map value_view right.row.value
