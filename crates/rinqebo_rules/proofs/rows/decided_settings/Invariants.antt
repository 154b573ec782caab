use Rattle.std.proofs.Common.{◌≡◌, filter, take}
use Rattle.nextest_elements.specs.Settings.{settings}
use Rattle.nextest_settings.specs.SettingsView.{origin_at}
use Rattle.rinqebo_origins.specs.Settings.{is_by_rule}
use Rattle.rinqebo_rules.proofs.rows.decided_settings.Given as goal

-- the settings so far that rules decide
abbrev pub invariant-loop-setting : goal.invariant-loop-setting
invariant-loop-setting g l =
    l.decided.items ≡ filter (λ s. is_by_rule (origin_at l.settings s)) (take l.setting-index settings)
