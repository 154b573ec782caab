-- The keys of settings, as files write them.
use Rattle.std.specs.Prelude.{ℕ, Bool, false, ◌||◌, List, ◌++◌, Option, None, Some, codes}
use Rattle.std.specs.Str.{bytes_eq}
use Rattle.nextest_elements.specs.declared.run_mode.NextestRunMode.{NextestRunMode}
use Rattle.nextest_elements.specs.declared.run_mode.NextestRunMode.TheVariants.{Benchmark}
use Rattle.nextest_elements.specs.Settings.{setting_name}
use Rattle.nextest_elements.specs.declared.setting.Setting.{Setting}
use Rattle.nextest_elements.specs.declared.setting.Setting.TheVariants as at

-- the table that has a setting, if there is one: benchmarks have a slow timeout of their own, and
-- what a report stores is in the report's table
abbrev pub key_table : Setting → NextestRunMode → Option (List ℕ)
key_table at.SlowTimeout Benchmark = Some (codes "bench")
key_table at.JunitStoreSuccessOutput mode = Some (codes "junit")
key_table at.JunitStoreFailureOutput mode = Some (codes "junit")
key_table at.JunitReportSkipped mode = Some (codes "junit")
key_table at.JunitFlakyFailStatus mode = Some (codes "junit")
key_table s mode = None

-- the key of a setting in that table
abbrev pub key_name : Setting → List ℕ
key_name at.JunitStoreSuccessOutput = codes "store-success-output"
key_name at.JunitStoreFailureOutput = codes "store-failure-output"
key_name at.JunitReportSkipped = codes "report-skipped"
key_name at.JunitFlakyFailStatus = codes "flaky-fail-status"
key_name s = setting_name s

-- whether a table is that of a report
abbrev pub is_report : Option (List ℕ) → Bool
is_report None = false
is_report (Some name) = bytes_eq name (codes "junit")

-- a key behind its table, with a dot between them
abbrev pub dotted : Option (List ℕ) → List ℕ → List ℕ
dotted None key = key
dotted (Some name) key = name ++ (codes "." ++ key)

-- a setting as files write it
abbrev pub key_text : Setting → NextestRunMode → List ℕ
key_text s mode = dotted (key_table s mode) (key_name s)

-- whether a table, if there is one, has a name
abbrev pub is_table : Option (List ℕ) → List ℕ → Bool
is_table None name = false
is_table (Some table) name = bytes_eq table name

-- whether a key names a setting: it is the key of the setting, or that of the table that has it
abbrev pub is_named_by : List ℕ → NextestRunMode → Setting → Bool
is_named_by key mode s = bytes_eq (key_text s mode) key || is_table (key_table s mode) key
