use Rattle.std.proofs.Common.{◌≡◌, filter, take}
use Rattle.nextest_elements.specs.Settings.{settings}
use Rattle.nextest_settings.specs.Settings.{is_set}
use Rattle.nextest_settings.specs.View.{meant_override}
use Rattle.rinqebo_rules.proofs.passed.written_by.Given as goal

-- the settings so far that the override writes
abbrev pub invariant-loop-setting : goal.invariant-loop-setting
invariant-loop-setting g l =
    l.written.items
    ≡ filter (λ s. is_set (meant_override g.F.Filters.meaning l.rule).writes.settings l.mode s)
    (take l.setting-index settings)
