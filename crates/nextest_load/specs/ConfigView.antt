-- What contracts see of the parts of a loaded configuration.
use Rattle.std.specs.Prelude.{List, map, Option, Some, option_map, string_bytes}
use Rattle.nextest_elements.specs.TestGroup.{custom_group_text}
use Rattle.nextest_elements.specs.declared.test_group.CustomTestGroup.{CustomTestGroup}
use Rattle.nextest_elements.specs.declared.test_group.TestGroupConfig.{TestGroupConfig}
use Rattle.nextest_scripts.specs.ScriptId.{script_text}
use Rattle.nextest_scripts.specs.ScriptTexts.{setup_script_view, wrapper_script_view}
use Rattle.nextest_tables.specs.View.{fields_view}
use Rattle.nextest_tables.specs.Written.{Name}
use Rattle.nextest_load.specs.Config as model
use Rattle.nextest_load.specs.Config.{ScriptTables}
use Rattle.nextest_load.specs.declared.loaded_config.MergedProfile.{MergedProfile}
use Rattle.nextest_load.specs.declared.loaded_config.ScriptConfig.{ScriptConfig}

-- groups by their names
abbrev pub groups_view : List (CustomTestGroup × TestGroupConfig)
    → List (Name × Option TestGroupConfig)
groups_view es = map (λ e. (custom_group_text e.0, Some e.1)) es

-- a profile of the merged tree
abbrev pub merged_profile_view : MergedProfile → model.MergedProfile
merged_profile_view p =
    record { parent = option_map string_bytes p.inherits; fields = fields_view p.fields }

-- scripts by their ids, in order
abbrev pub scripts_view : ScriptConfig → ScriptTables
scripts_view s = record {
  setup = map (λ e. (script_text e.0, setup_script_view e.1)) s.setup.entries;
  wrapper = map (λ e. (script_text e.0, wrapper_script_view e.1)) s.wrapper.entries;
}
