use Rattle.std.proofs.Common.{◌≡◌, ◌++◌, map, drop}
use Rattle.std.specs.BTreeSet.{contains_text}
use Rattle.std.specs.List.{filter_map}
use Rattle.nextest_sources.specs.Errors.{group_error_view}
use Rattle.nextest_rules.specs.Meaning.{override_meaning}
use Rattle.nextest_rules.specs.RuleFaults.{group_fault}
use Rattle.nextest_rules.specs.View.{override_rule_view}
use Rattle.nextest_rules.proofs.groups.add_unknown.Given as goal

-- what was found so far, and what is wrong with the rules that are left
abbrev pub invariant-loop-rule : goal.invariant-loop-rule
invariant-loop-rule g l =
    map group_error_view l.errors.items
    ++ filter_map (λ r. group_fault (contains_text l.known) l.profile r.writes.settings.test_group)
    (map (override_meaning g.F.Filters.meaning g.S.Specs.spec_meaning)
    (map override_rule_view (drop l.rule-index l.overrides)))
    ≡ map group_error_view l.initial.errors.items
    ++ filter_map (λ r. group_fault (contains_text l.known) l.profile r.writes.settings.test_group)
    (map (override_meaning g.F.Filters.meaning g.S.Specs.spec_meaning) (map override_rule_view l.overrides))
