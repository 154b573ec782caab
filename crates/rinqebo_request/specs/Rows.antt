-- The rows of a test that a command line names: whether the test runs, and settings.
use Rattle.std.specs.Prelude.{◌≡◌, ◌≢◌, ◌++◌, ◌∷◌, ◌⊎◌, ◌&&◌, ◌||◌, ◌==◌, ℕ, Bool, false, true, not, List, [], None, Option, Some, codes, if◌then◌else◌, length}
use Rattle.std.specs.List.{AllByRecursion, filter}
use Rattle.std.specs.Str.{bytes_eq}
use Rattle.nextest_elements.specs.Settings.{settings}
use Rattle.nextest_elements.specs.declared.run_mode.NextestRunMode.{NextestRunMode}
use Rattle.nextest_elements.specs.declared.setting.Setting.{Setting}
use Rattle.rinqebo_keys.specs.Keys.{is_named_by, key_text}
use Rattle.rinqebo_request.specs.Lines.{IsFlag, Line, value_at, values_at}
use Rattle.rinqebo_request.specs.declared.request.RequestedSettings.{RequestedSettings}
use Rattle.rinqebo_request.specs.declared.request.RequestedSettings.TheVariants as asked

-- the rows of a test: whether they have one for whether it runs, and the settings of the others
pub record Rows : Type 0 where
  pub runs : Bool
  pub settings : List Setting

-- all rows
abbrev pub all_rows : Rows
all_rows = record { runs = true; settings = settings }

-- the rows that are requested, if some are named
abbrev pub requested : RequestedSettings → Option Rows
requested asked.Decided = None
requested (asked.These runs settings) = Some (record { runs = runs; settings = settings.items })

-- whether a key is that of whether a test runs
abbrev pub is_runs : List ℕ → Bool
is_runs key = bytes_eq key (codes "runs")

-- the settings that a key names: the one with this key, or those of the table with this key
abbrev pub settings_by : NextestRunMode → List ℕ → List Setting
settings_by mode key = if is_runs key then [] else filter (is_named_by key mode) settings

-- no row
abbrev pub no_rows : Rows
no_rows = record { runs = false; settings = [] }

-- whether there is no row
abbrev pub is_no_row : Rows → Bool
is_no_row rows = not rows.runs && length rows.settings == 0

-- rows, and behind them those that a key names
abbrev pub with_key : NextestRunMode → Rows → List ℕ → Rows
with_key mode rows key =
    record {
      runs = rows.runs || is_runs key;
      settings = rows.settings ++ settings_by mode key;
    }

-- rows, and behind them those that keys name, one key after another
abbrev pub with_all : NextestRunMode → Rows → List (List ℕ) → Rows
with_all mode rows [] = rows
with_all mode rows (key ∷ keys) = with_all mode (with_key mode rows key) keys

-- the rows that keys name
abbrev pub rows_by : NextestRunMode → List (List ℕ) → Rows
rows_by mode keys = with_all mode no_rows keys

-- a key names a row
abbrev pub IsKnownKey : NextestRunMode → List ℕ → Type 0
IsKnownKey mode key = (is_runs key ≡ true) ⊎ (settings_by mode key ≢ [])

-- each key names a row
abbrev pub AreKnownKeys : NextestRunMode → List (List ℕ) → Type 0
AreKnownKeys mode keys = AllByRecursion (IsKnownKey mode) keys

-- the KEYs of a line, and behind them those of its options
abbrev pub keys_of : Line → List (List ℕ)
keys_of line = values_at (codes "KEY") line ++ values_at (codes "key") line

-- the rows of keys, or all rows, if there is no key
abbrev pub rows_or_all : NextestRunMode → List (List ℕ) → Rows
rows_or_all mode [] = all_rows
rows_or_all mode (key ∷ keys) = rows_by mode (key ∷ keys)

-- The rows of `explain` are those that its KEYs name, each of which names one, or all.
pub record AreExplainedRows (mode : NextestRunMode) (line : Line) (rows : RequestedSettings)
    : Type 0 where
  pub known : AreKnownKeys mode (keys_of line)
  pub are : requested rows ≡ Some (rows_or_all mode (keys_of line))

-- the row of a key that names one row
abbrev pub IsRowOf : NextestRunMode → List ℕ → RequestedSettings → Type 0
IsRowOf mode key rows =
    ((is_runs key ≡ true) × (requested rows ≡ Some (record { runs = true; settings = [] })))
    ⊎ ((setting : Setting) × (key_text setting mode ≡ key)
    × (requested rows ≡ Some (record { runs = false; settings = setting ∷ [] })))

-- The rows of `list`, by whether it has `--all`, by the KEY of `--by`, and by its KEYs, of which it
-- has one kind alone. Without them they are those that rules decide.
abbrev pub AreRowsBy : NextestRunMode → Bool → Option (List ℕ) → List (List ℕ)
    → RequestedSettings → Type 0
AreRowsBy mode true by keys rows = (by ≡ None) × (keys ≡ []) × (requested rows ≡ Some all_rows)
AreRowsBy mode false (Some key) keys rows = (keys ≡ []) × IsRowOf mode key rows
AreRowsBy mode false None [] rows = requested rows ≡ None
AreRowsBy mode false None (key ∷ keys) rows =
    AreKnownKeys mode (key ∷ keys) × (requested rows ≡ Some (rows_by mode (key ∷ keys)))

-- the rows of `list`
abbrev pub AreListedRows : NextestRunMode → Line → RequestedSettings → Type 0
AreListedRows mode line rows =
    (is_all : Bool) × IsFlag (codes "all") line is_all
    × AreRowsBy mode is_all (value_at (codes "by") line) (keys_of line) rows
