use Rattle.std.proofs.Common.{◌≡◌, filter, map, take}
use Rattle.rinqebo_rules.specs.FilterRules.{filter_rule_view, held_default, held_filter_rule}
use Rattle.rinqebo_rules.proofs.default_rules.held_rules.Given as goal

-- the rules so far that have a default filter
abbrev pub invariant-loop-rule : goal.invariant-loop-rule
invariant-loop-rule l =
    map filter_rule_view l.found.items
    ≡ map (held_filter_rule l.platforms) (filter held_default (take l.rule-index l.overrides))
