use Rattle.std.proofs.Common.{◌≡◌, map, option_map, take}
use Rattle.nextest_elements.specs.Settings.{settings}
use Rattle.nextest_settings.specs.SettingsView.{origin_at}
use Rattle.nextest_config.specs.RowView.{origin_view}
use Rattle.nextest_config.proofs.run.row.sources.sources_of.Given as goal

-- what decides the settings so far
abbrev pub invariant-loop-setting : goal.invariant-loop-setting
invariant-loop-setting g l =
    map (option_map origin_view) l.sources.items ≡ map (origin_at l.test_settings) (take l.setting-index settings)
