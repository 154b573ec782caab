-- What a side gives to the whole run, as rows.
use Rattle.std.specs.Prelude.{◌≡◌, ℕ, ◌==◌, ◌||◌, not, Bool, false, List, [], ◌∷◌, ◌++◌, Option, None, Some, filter, length, slice_index, codes, string_bytes}
use Rattle.std.specs.Prelude.{String, Vec}
use Rattle.std.specs.List.{AllZip, list_any}
use Rattle.std.specs.declared.alloc.Global.{Global}
use Rattle.nextest_elements.specs.declared.run_mode.NextestRunMode.TheVariants as modes
use Rattle.nextest_elements.specs.Settings.{settings}
use Rattle.nextest_elements.specs.declared.setting.Setting.{Setting}
use Rattle.rinqebo_report.specs.OriginText.{after_prefix}
use Rattle.rinqebo_report.specs.declared.report.Entry.{Entry}
use Rattle.rinqebo_report.specs.declared.report.ListScripts.{ListScripts}
use Rattle.rinqebo_report.specs.declared.report.ListWrapper.{ListWrapper}
use Rattle.rinqebo_report.specs.declared.report.SettingRow.{SettingRow}
use Rattle.rinqebo_report.specs.declared.value.Scalar.TheVariants as scalars
use Rattle.rinqebo_report.specs.declared.value.Value.TheVariants as values
use Rattle.rinqebo_keys.specs.Keys.{key_text}

-- whether a text is what follows a whole key: nothing, or a dot and more
abbrev pub is_end : List ℕ → Bool
is_end rest = length rest == 0 || slice_index rest 0 == 46

-- whether there is a text, which follows a whole key
abbrev pub ends_key : Option (List ℕ) → Bool
ends_key None = false
ends_key (Some rest) = is_end rest

-- whether a key is another one, or is in its table
abbrev pub is_below : List ℕ → List ℕ → Bool
is_below key above = ends_key (after_prefix above key)

-- whether a key is that of a setting of tests, or is in its table
abbrev pub is_of_setting : List ℕ → Setting → Bool
is_of_setting key s =
    is_below key (key_text s modes.Test) || is_below key (key_text s modes.Benchmark)

-- whether a key is that of a value that tests have: of a setting, or of the filter that says which
-- tests run
abbrev pub is_of_tests : List ℕ → Bool
is_of_tests key = list_any (is_of_setting key) settings || is_below key (codes "default-filter")

-- whether a leaf is one of the whole run
abbrev pub is_of_run : Entry → Bool
is_of_run entry = not (is_of_tests (string_bytes entry.key))

-- A row is that of a leaf: its key, its value, and what writes it.
pub record IsEntryRow (entry : Entry) (row : SettingRow) : Type 0 where
  pub key : row.key ≡ entry.key
  pub value : row.value ≡ Some entry.value
  pub origins : row.origins.items ≡ entry.origin ∷ []

-- The row of a leaf is added to rows, if it is one of the whole run.
pub record AddsEntry (entry : Entry) (old new : List SettingRow) : Type 0 where
  pub added : List SettingRow
  pub are_rows : AllZip IsEntryRow (filter is_of_run (entry ∷ [])) added
  pub appended : new ≡ old ++ added

-- A row is that of the setup scripts that run, in their order.
pub record IsSetupRow (ids : Vec (String Global) Global) (row : SettingRow) : Type 0 where
  pub key : string_bytes row.key ≡ codes "setup-scripts"
  pub value : row.value ≡ Some (values.Texts ids)
  pub origins : row.origins.items ≡ []

-- A row is that of what wraps a binary while it lists its tests.
pub record IsWrapperRow (wrapper : ListWrapper) (row : SettingRow) : Type 0 where
  pub key : string_bytes row.key ≡ codes "list-wrapper of " ++ string_bytes wrapper.binary
  pub value : row.value ≡ Some (values.Scalar (scalars.Text wrapper.value))
  pub origins : row.origins.items ≡ []

-- Rows are those of leaves and of scripts: each leaf that no test has a setting for, the setup
-- scripts, and what wraps each binary, in their order.
pub record AreRunRows (entries : List Entry) (scripts : ListScripts) (rows : List SettingRow)
    : Type 0 where
  pub leaves : List SettingRow
  pub are_leaves : AllZip IsEntryRow (filter is_of_run entries) leaves
  pub setup : SettingRow
  pub is_setup : IsSetupRow scripts.setup setup
  pub wrappers : List SettingRow
  pub are_wrappers : AllZip IsWrapperRow scripts.list_wrappers.items wrappers
  pub are_rows : rows ≡ (leaves ++ setup ∷ []) ++ wrappers
