-- Which settings of a test a report lists, and how.
use Rattle.std.specs.Prelude.{◌≡◌, List, filter, Bool, true, false, IfSome, Option, None, Some, option_map, string_bytes}
use Rattle.nextest_elements.specs.declared.run_mode.NextestRunMode.{NextestRunMode}
use Rattle.nextest_rules.specs.Rules.{RuleId}
use Rattle.nextest_settings.specs.Queries.{Origin, unwritten, by_profile, by_override, by_script}
use Rattle.nextest_elements.specs.Settings.{settings}
use Rattle.nextest_settings.specs.Settings.{ValueOf}
use Rattle.nextest_elements.specs.declared.setting.Setting.{Setting}
use Rattle.rinqebo_origins.specs.TestOrigins.{Basis, AreOriginsBy}
use Rattle.rinqebo_request.specs.declared.request.RequestedSettings.{RequestedSettings}
use Rattle.rinqebo_request.specs.declared.request.RequestedSettings.TheVariants as asks
use Rattle.rinqebo_report.specs.declared.report.SettingRow.{SettingRow}
use Rattle.rinqebo_keys.specs.Keys.{key_name, key_table, key_text}
use Rattle.rinqebo_origins.specs.AsWritten.{IsValueAsWritten, node_alone}
use Rattle.rinqebo_origins.specs.Origins.{key_steps}
use Rattle.rinqebo_origins.specs.Reported.{reported_of, value_view}

-- whether a rule decides a setting
abbrev pub is_by_rule : Option Origin → Bool
is_by_rule None = false
is_by_rule (Some unwritten) = false
is_by_rule (Some by_profile) = false
is_by_rule (Some (by_override id)) = true
is_by_rule (Some by_script) = true

-- the settings that a report lists: those that rules decide, or the requested ones, in order
abbrev pub reported_settings : RequestedSettings → (Setting → Option Origin) → List Setting
reported_settings asks.Decided origin = filter (λ s. is_by_rule (origin s)) settings
reported_settings (asks.These runs asked) origin = asked.items

-- A report shows a setting: its key in files, its value, and its origins, for the script rule that
-- wraps the run of the test. Durations are as a file writes them, where one file alone writes the
-- value.
pub record IsSettingReported (basis : Basis) (wrapping : Option RuleId)
    (value : (s : Setting) → Option (ValueOf s)) (origin : Setting → Option Origin)
    (mode : NextestRunMode) (s : Setting) (told : SettingRow) : Type 0 where
  pub key : string_bytes told.key ≡ key_text s mode
  pub value_reported : option_map value_view told.value ≡ option_map (reported_of s) (value s)
  pub origins_reported : AreOriginsBy basis wrapping (key_table s mode) (key_name s) (origin s)
      told.origins.items
  pub value_as_written : IfSome told.value (IsValueAsWritten
      (node_alone basis.layers (key_steps (key_table s mode) (key_name s)) told.origins.items))
