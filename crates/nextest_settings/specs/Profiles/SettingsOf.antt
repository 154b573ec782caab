-- What a profile gives to a test.
use Rattle.std.specs.Prelude.{◌≡◌, Some, option_map}
use Rattle.nextest_elements.specs.declared.run_mode.NextestRunMode.{NextestRunMode}
use Rattle.nextest_rules.specs.Rules.{at_name}
use Rattle.nextest_settings.specs.Deciding.{QueryContext}
use Rattle.nextest_settings.specs.Platforms.{rule_text}
use Rattle.nextest_settings.specs.Profile.{EvaluatableModel}
use Rattle.nextest_settings.specs.Queries.{deciding_override, setting_value, setting_origin, wrapping_rule}
use Rattle.nextest_settings.specs.SettingsView.{value_at, origin_at, override_at, wrapper_at, wrapping_use_at}
use Rattle.nextest_settings.specs.View.{override_text_meaning}
use Rattle.nextest_elements.specs.declared.setting.Setting.{Setting}
use Rattle.nextest_elements.specs.declared.setting.Setting.TheVariants as at
use Rattle.nextest_settings.specs.declared.test_settings.TestSettings.{TestSettings}

-- Settings are those that a profile gives to what is judged, by what filters mean.
pub record AreSettingsOf {F S Src E T N P M : Type 0} (meaning : E → M) (query : QueryContext M)
    (mode : NextestRunMode) (profile : EvaluatableModel M)
    (settings : TestSettings F S Src E T N P) : Type 0 where
  -- each value is what the first rule writes that holds and sets it, else the fallback
  pub values : (s : Setting) → value_at settings s ≡ setting_value query mode profile s
  -- each origin is that of this rule, else of the fallback
  pub origins : (s : Setting) → origin_at settings s ≡ setting_origin query mode profile s
  -- the override that is returned has the filter of the one that decides, and writes the same
  pub overrides : (s : Setting)
      → option_map (override_text_meaning meaning) (override_at settings s)
      ≡ option_map rule_text (deciding_override query mode profile.overrides s)
  -- the script rule that is returned is the first that holds and names a run wrapper: it has the
  -- id of that rule, and names its scripts
  pub script_rule : wrapping_use_at settings
      ≡ option_map (λ r. r.writes) (wrapping_rule query profile.script_rules)
  -- the wrapper is the script of the id that is the wrapper's value
  pub wrapper : option_map Some (wrapper_at settings)
      ≡ option_map (λ id. at_name id profile.facts.scripts.wrapper)
      (setting_value query mode profile at.RunWrapper)
