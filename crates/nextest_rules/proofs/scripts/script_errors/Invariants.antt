use Rattle.std.proofs.Common.{drop}
use Rattle.nextest_sources.specs.Errors.{script_errors_view}
use Rattle.nextest_rules.specs.KnownView.{known_view}
use Rattle.nextest_rules.specs.RuleFaults.{AreMore, script_faults_in}
use Rattle.nextest_rules.specs.View.{order_view}
use Rattle.nextest_rules.proofs.Joining.{joined, no_faults}
use Rattle.nextest_rules.proofs.scripts.script_errors.Given as goal

-- what is there, and what is wrong with the profiles that are left
abbrev pub invariant-loop-name : goal.invariant-loop-name
invariant-loop-name g l =
    AreMore (script_errors_view l.errors)
    (script_faults_in g.F.Filters.leaves (known_view l.known)
    (order_view g.F.Filters.meaning g.S.Specs.spec_meaning (drop l.name-index l.order)))
    (joined no_faults (script_faults_in g.F.Filters.leaves (known_view l.known)
    (order_view g.F.Filters.meaning g.S.Specs.spec_meaning l.order)))
