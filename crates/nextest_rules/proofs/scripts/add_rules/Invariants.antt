use Rattle.std.proofs.Common.{map, drop}
use Rattle.nextest_sources.specs.Errors.{script_errors_view}
use Rattle.nextest_rules.specs.KnownView.{known_view}
use Rattle.nextest_rules.specs.Meaning.{script_rule_meaning}
use Rattle.nextest_rules.specs.RuleFaults.{AreMore, rule_script_faults}
use Rattle.nextest_rules.specs.View.{script_rule_view}
use Rattle.nextest_rules.proofs.Joining.{joined}
use Rattle.nextest_rules.proofs.scripts.add_rules.Given as goal

-- what is there, and what is wrong with the rules that are left
abbrev pub invariant-loop-rule : goal.invariant-loop-rule
invariant-loop-rule g l =
    AreMore (script_errors_view l.errors)
    (rule_script_faults g.F.Filters.leaves (known_view l.known) l.profile
    (map (script_rule_meaning g.F.Filters.meaning g.S.Specs.spec_meaning)
    (map script_rule_view (drop l.rule-index l.rules))))
    (joined (script_errors_view l.initial.errors)
    (rule_script_faults g.F.Filters.leaves (known_view l.known) l.profile
    (map (script_rule_meaning g.F.Filters.meaning g.S.Specs.spec_meaning) (map script_rule_view l.rules))))
