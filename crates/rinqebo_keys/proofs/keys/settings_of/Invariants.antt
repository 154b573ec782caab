use Rattle.std.proofs.Common.{◌≡◌, filter, take}
use Rattle.nextest_elements.specs.Settings.{settings}
use Rattle.rinqebo_keys.specs.Keys.{is_named_by}
use Rattle.rinqebo_keys.proofs.keys.settings_of.Given as goal

-- those of the settings so far that the key names
abbrev pub invariant-loop-setting : goal.invariant-loop-setting
invariant-loop-setting l = l.found.items ≡ filter (is_named_by l.key l.mode) (take l.setting-index settings)
