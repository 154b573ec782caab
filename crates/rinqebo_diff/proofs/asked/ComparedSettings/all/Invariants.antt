use Rattle.std.proofs.Common.{◌≡◌, take}
use Rattle.nextest_elements.specs.Settings.{settings}
use Rattle.rinqebo_diff.proofs.asked.ComparedSettings.all.Given as goal

-- the settings so far
abbrev pub invariant-loop-setting : goal.invariant-loop-setting
invariant-loop-setting l = l.settings.items ≡ take l.setting-index settings
