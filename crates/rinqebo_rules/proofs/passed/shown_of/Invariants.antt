use Rattle.std.proofs.Common.{◌≡◌, ◌<◌, ℕ, Some, slice_get}
use Rattle.nextest_elements.specs.declared.setting.Setting.{Setting}
use Rattle.rinqebo_rules.specs.Passed.{IsHidden, IsShownAt}
use Rattle.rinqebo_rules.proofs.passed.shown_of.Given as goal

-- none of the settings so far shows whether the override holds
abbrev pub invariant-loop-setting : goal.invariant-loop-setting
invariant-loop-setting l = (k : ℕ) (s : Setting) → k < l.setting-index → slice_get l.written k ≡ Some s
    → IsHidden (IsShownAt s l.number l.passed l.are_distinct)
