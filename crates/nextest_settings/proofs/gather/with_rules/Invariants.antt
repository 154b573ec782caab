use Rattle.std.proofs.Common.{◌≡◌, ◌++◌, map, take}
use Rattle.nextest_settings.proofs.gather.with_rules.Given as goal

abbrev pub invariant-loop-rule : goal.invariant-loop-rule
invariant-loop-rule g l =
    map (λ rule. rule.now) l.found.items
    ≡ map (λ rule. rule.now) l.fn.found.items ++ take l.rule-index l.rules
