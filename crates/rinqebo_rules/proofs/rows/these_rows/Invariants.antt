use Rattle.std.proofs.Common.{◌≡◌, take}
use Rattle.std.specs.List.{AllZip}
use Rattle.nextest_settings.specs.SettingsView.{origin_at, value_at}
use Rattle.rinqebo_origins.specs.TestOrigins.{wrapping_at}
use Rattle.rinqebo_origins.specs.Settings.{IsSettingReported}
use Rattle.rinqebo_rules.proofs.rows.these_rows.Given as goal

-- the settings so far
abbrev pub invariant-loop-setting : goal.invariant-loop-setting
invariant-loop-setting g l = record {
  same : l.origins ≡ l.initial.origins;
  told : AllZip (IsSettingReported l.initial.origins (wrapping_at l.settings) (value_at l.settings) (origin_at l.settings)
      l.mode) (take l.setting-index l.told) l.rows.items;
}
