use Rattle.std.proofs.Common.{◌≡◌, ◌++◌, map, drop}
use Rattle.std.specs.BTreeSet.{contains_text}
use Rattle.nextest_sources.specs.Errors.{group_error_view}
use Rattle.nextest_rules.specs.RuleFaults.{group_faults_in}
use Rattle.nextest_rules.specs.View.{order_view}
use Rattle.nextest_rules.proofs.groups.groups_not_known.Given as goal

-- what was found so far, and what is wrong with the profiles that are left
abbrev pub invariant-loop-name : goal.invariant-loop-name
invariant-loop-name g l =
    map group_error_view l.errors.items
    ++ group_faults_in (contains_text l.known)
    (order_view g.F.Filters.meaning g.S.Specs.spec_meaning (drop l.name-index l.order))
    ≡ group_faults_in (contains_text l.known) (order_view g.F.Filters.meaning g.S.Specs.spec_meaning l.order)
