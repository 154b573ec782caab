use Rattle.std.proofs.Common.{◌≡◌, ◌+◌, ◌≤◌, filter, length, map, drop}
use Rattle.nextest_rules.specs.Meaning.{script_rule_meaning}
use Rattle.nextest_rules.specs.RuleFaults.{names_none}
use Rattle.nextest_rules.specs.View.{script_rule_view}
use Rattle.nextest_rules.proofs.empty_sections.count_empty.Given as goal

-- the rules so far, with those that are left
abbrev pub invariant-loop-rule : goal.invariant-loop-rule
invariant-loop-rule g l =
    (l.count + length (filter (λ r. names_none r.writes.scripts)
    (map (script_rule_meaning g.F.Filters.meaning g.S.Specs.spec_meaning)
    (map script_rule_view (drop l.rule-index l.rules))))
    ≡ length (filter (λ r. names_none r.writes.scripts)
    (map (script_rule_meaning g.F.Filters.meaning g.S.Specs.spec_meaning) (map script_rule_view l.rules))))
    × (l.count ≤ l.rule-index)
