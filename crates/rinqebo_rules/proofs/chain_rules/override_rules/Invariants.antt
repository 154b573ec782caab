use Rattle.std.proofs.Common.{◌≡◌, map, take}
use Rattle.rinqebo_rules.specs.RuleViews.{judged_override, setting_rule_view}
use Rattle.rinqebo_rules.proofs.chain_rules.override_rules.Given as goal

-- the rules so far
abbrev pub invariant-loop-rule : goal.invariant-loop-rule
invariant-loop-rule l =
    map setting_rule_view l.found.items
    ≡ map (judged_override l.asking l.setting l.mode) (take l.rule-index l.overrides)
