-- What contracts see of tables that were read.
use Rattle.std.specs.Prelude.{List, map, Some, option_map, String, string_bytes}
use Rattle.std.specs.declared.alloc.Global.{Global}
use Rattle.nextest_elements.specs.TestGroup.{custom_group_text}
use Rattle.nextest_elements.specs.declared.junit.JunitImpl.{JunitImpl}
use Rattle.nextest_scripts.specs.ScriptId.{script_text}
use Rattle.nextest_tables.specs.FileTexts.{PlatformText, OverrideText, ScriptUse, ScriptRuleText, ProfileText, FileText}
use Rattle.nextest_tables.specs.Written.{Name, WrittenSettings, WrittenReport, WrittenFields}
use Rattle.nextest_tables.specs.declared.file_table.FileTable.{FileTable}
use Rattle.nextest_tables.specs.declared.override_table.OverrideSettings.{OverrideSettings}
use Rattle.nextest_tables.specs.declared.override_table.OverrideTable.{OverrideTable}
use Rattle.nextest_tables.specs.declared.platform_strings.PlatformStrings.{PlatformStrings}
use Rattle.nextest_tables.specs.declared.profile_table.ProfileFields.{ProfileFields}
use Rattle.nextest_tables.specs.declared.profile_table.ProfileTable.{ProfileTable}
use Rattle.nextest_tables.specs.declared.script_rule_table.ScriptUses.{ScriptUses}
use Rattle.nextest_tables.specs.declared.script_rule_table.ScriptRuleTable.{ScriptRuleTable}

-- the entries of a map by name, each seen by f
abbrev pub by_name : {X Y : Type 0} → (X → Y) → List (String Global × X) → List (Name × Y)
by_name f es = map (λ e. (string_bytes e.0, f e.1)) es

-- what an override writes
abbrev pub settings_view : OverrideSettings → WrittenSettings
settings_view s = record {
  priority = s.priority;
  threads_required = s.runs.threads_required;
  run_extra_args = option_map (λ v. map string_bytes v.items) s.runs.run_extra_args;
  retries = s.runs.retries;
  flaky_result = s.runs.flaky_result;
  slow_timeout = s.runs.slow_timeout;
  leak_timeout = s.runs.leak_timeout;
  test_group = s.outputs.test_group;
  success_output = s.outputs.success_output;
  failure_output = s.outputs.failure_output;
  junit = s.outputs.junit;
  bench = s.outputs.bench;
}

-- what a profile writes of its report
abbrev pub report_view : JunitImpl → WrittenReport
report_view j = record {
  path = option_map string_bytes j.path;
  report_name = option_map string_bytes j.report_name;
  store_success_output = j.store_success_output;
  store_failure_output = j.store_failure_output;
  report_skipped = j.report_skipped;
  flaky_fail_status = j.flaky_fail_status;
}

-- what a profile writes
abbrev pub fields_view : ProfileFields → WrittenFields
fields_view f = record {
  retries = f.runs.retries;
  flaky_result = f.runs.flaky_result;
  test_threads = f.runs.test_threads;
  threads_required = f.runs.threads_required;
  run_extra_args = option_map (λ v. map string_bytes v.items) f.runs.run_extra_args;
  status_level = f.outputs.status_level;
  final_status_level = f.outputs.final_status_level;
  failure_output = f.outputs.failure_output;
  success_output = f.outputs.success_output;
  max_fail = f.ends.max_fail;
  slow_timeout = f.ends.slow_timeout;
  global_timeout = f.ends.global_timeout;
  leak_timeout = f.ends.leak_timeout;
  junit = option_map report_view f.junit;
  bench = f.bench;
}

-- platform specs
abbrev pub platform_view : PlatformStrings → PlatformText
platform_view p =
    record { host = option_map string_bytes p.host; target = option_map string_bytes p.target }

-- an override
abbrev pub override_view : OverrideTable → OverrideText
override_view o = record {
  platform = platform_view o.platform;
  filter = option_map string_bytes o.filter;
  default_filter = option_map string_bytes o.default_filter;
  settings = settings_view o.settings;
}

-- the scripts that a rule names
abbrev pub uses_view : ScriptUses → ScriptUse
uses_view s = record {
  setup = map script_text s.setup.items;
  list_wrapper = option_map script_text s.list_wrapper;
  run_wrapper = option_map script_text s.run_wrapper;
}

-- a script rule
abbrev pub script_rule_table_view : ScriptRuleTable → ScriptRuleText
script_rule_table_view r = record {
  platform = platform_view r.platform;
  filter = option_map string_bytes r.filter;
  scripts = uses_view r.scripts;
}

-- a profile
abbrev pub profile_view : ProfileTable → ProfileText
profile_view p = record {
  parent = option_map string_bytes p.inherits;
  default_filter = option_map string_bytes p.default_filter;
  fields = fields_view p.fields;
  overrides = map override_view p.overrides.items;
  script_rules = map script_rule_table_view p.scripts.items;
}

-- a whole file
abbrev pub file_table_view : FileTable → FileText
file_table_view f = record {
  store_dir = Some (string_bytes f.store_dir);
  groups = map (λ e. (custom_group_text e.0, Some e.1)) f.test_groups.entries;
  new_setup_scripts = map (λ e. script_text e.0) f.scripts.setup.entries;
  old_setup_scripts = map (λ e. script_text e.0) f.script.entries;
  wrapper_scripts = map (λ e. script_text e.0) f.scripts.wrapper.entries;
  profiles = by_name profile_view f.profiles.entries;
}
