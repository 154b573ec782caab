use Rattle.std.proofs.Common.{◌≡◌, false, take}
use Rattle.std.specs.List.{list_any}
use Rattle.nextest_elements.specs.Settings.{settings}
use Rattle.rinqebo_changes.specs.Sides.RunRows.{is_of_setting}
use Rattle.rinqebo_changes.proofs.sides.rows.is_of_tests.Given as goal

-- the key is that of no setting so far
abbrev pub invariant-loop-setting : goal.invariant-loop-setting
invariant-loop-setting l = list_any (is_of_setting l.key) (take l.setting-index settings) ≡ false
