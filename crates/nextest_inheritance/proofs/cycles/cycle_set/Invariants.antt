use Rattle.std.proofs.Common.{map}
use Rattle.nextest_inheritance.specs.View.{parents_view, names_view, has_name}
use Rattle.nextest_inheritance.proofs.Exploring.{Progress}
use Rattle.nextest_inheritance.proofs.cycles.cycle_set.Given as goal

abbrev pub invariant-loop-start : goal.invariant-loop-start
invariant-loop-start g l =
    Progress (parents_view g.P.Inherits.parent l.profiles.entries) (has_name l.walked)
    (map names_view l.found.keys) (parents_view g.P.Inherits.parent l.start-iterator)
