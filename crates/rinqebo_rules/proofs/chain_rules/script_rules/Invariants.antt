use Rattle.std.proofs.Common.{◌≡◌, map, take}
use Rattle.rinqebo_rules.specs.RuleViews.{judged_script_rule, setting_rule_view}
use Rattle.rinqebo_rules.proofs.chain_rules.script_rules.Given as goal

-- the rules so far
abbrev pub invariant-loop-rule : goal.invariant-loop-rule
invariant-loop-rule l =
    map setting_rule_view l.found.items ≡ map (judged_script_rule l.asking) (take l.rule-index l.rules)
