use Rattle.std.proofs.Common.{map}
use Rattle.std.specs.BTreeSet.{contains_text}
use Rattle.nextest_inheritance.specs.Faults.{is_known}
use Rattle.nextest_inheritance.specs.View.{parents_view, inherits_error_view}
use Rattle.nextest_inheritance.proofs.Gathering.{IsGathered}
use Rattle.nextest_inheritance.proofs.parents.parent_errors.Given as goal

abbrev pub invariant-loop-name : goal.invariant-loop-name
invariant-loop-name g l =
    let written = parents_view g.P.Inherits.parent l.profiles.entries in
    IsGathered (is_known (contains_text l.lower) written) written (parents_view g.P.Inherits.parent l.name-iterator)
    (map inherits_error_view l.errors.items) (map inherits_error_view l.others.items)
