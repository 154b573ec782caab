use Rattle.std.proofs.Common.{take}
use Rattle.std.specs.List.{AllZip}
use Rattle.nextest_settings.specs.View.{meant_override}
use Rattle.rinqebo_rules.specs.Passed.{AreWritten}
use Rattle.rinqebo_rules.proofs.passed.all_written.Given as goal

-- the settings that the overrides so far write
abbrev pub invariant-loop-rule : goal.invariant-loop-rule
invariant-loop-rule g l =
    AllZip (λ rule written. AreWritten l.mode (meant_override g.F.Filters.meaning rule) written)
    (take l.rule-index l.rules) l.written.items
