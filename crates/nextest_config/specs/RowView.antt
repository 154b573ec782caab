-- What contracts see of rows.
use Rattle.std.specs.Prelude.{Option, Some, option_map, map, string_bytes}
use Rattle.nextest_scripts.specs.ScriptId.{script_text}
use Rattle.nextest_settings.specs.Queries.{Origin, unwritten, by_profile, by_override, by_script}
use Rattle.nextest_settings.specs.Settings.{ValueOf}
use Rattle.nextest_settings.specs.SettingsView.{slot_at}
use Rattle.nextest_elements.specs.declared.setting.Setting.{Setting}
use Rattle.nextest_elements.specs.declared.setting.Setting.TheVariants as at
use Rattle.nextest_sources.specs.Sources.{source_view}
use Rattle.nextest_config.specs.Headline.{Row}
use Rattle.nextest_config.specs.declared.run.row.PlainSource.{PlainSource}
use Rattle.nextest_config.specs.declared.run.row.PlainSource.TheVariants.{Default, Profile, Override, Script}
use Rattle.nextest_config.specs.declared.run.row.TestRow.{TestRow}

-- the origin of a source
abbrev pub origin_view : PlainSource → Origin
origin_view Default = unwritten
origin_view Profile = by_profile
origin_view (Override source profile index) = by_override (record {
  source = source_view source;
  profile = string_bytes profile;
  index = index;
})
origin_view Script = by_script

-- the value of a setting in a row; that of the run wrapper is its id
abbrev pub row_value : TestRow → (s : Setting) → Option (ValueOf s)
row_value r at.Priority = Some r.priority
row_value r at.ThreadsRequired = Some r.threads_required
row_value r at.RunWrapper = option_map script_text r.run_wrapper
row_value r at.RunExtraArgs = Some (map string_bytes r.run_extra_args.items)
row_value r at.Retries = Some r.retries
row_value r at.FlakyResult = Some r.flaky_result
row_value r at.SlowTimeout = Some r.slow_timeout
row_value r at.LeakTimeout = Some r.leak_timeout
row_value r at.TestGroup = Some r.test_group
row_value r at.SuccessOutput = Some r.success_output
row_value r at.FailureOutput = Some r.failure_output
row_value r at.JunitStoreSuccessOutput = Some r.junit_store_success_output
row_value r at.JunitStoreFailureOutput = Some r.junit_store_failure_output
row_value r at.JunitReportSkipped = Some r.junit_report_skipped
row_value r at.JunitFlakyFailStatus = Some r.junit_flaky_fail_status

-- the source of a setting in a row, if it has one
abbrev pub row_source : TestRow → Setting → Option Origin
row_source r s = option_map origin_view (slot_at r.sources.items s)

-- a row
abbrev pub row_view : TestRow → Row
row_view r = record { value = row_value r; source = row_source r }
