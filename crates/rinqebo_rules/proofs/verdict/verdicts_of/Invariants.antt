use Rattle.std.proofs.Common.{◌≡◌, ◌++◌, drop, false, map}
use Rattle.rinqebo_rules.specs.VerdictsBy.{verdicts_by}
use Rattle.rinqebo_rules.proofs.verdict.verdicts_of.Given as goal

abbrev pub invariant-loop-rule : goal.invariant-loop-rule
invariant-loop-rule l =
    l.verdicts.items ++ verdicts_by l.is_decided (map (λ rule. rule.facts) (drop l.rule-index l.rules))
    ≡ verdicts_by false (map (λ rule. rule.facts) l.rules)
