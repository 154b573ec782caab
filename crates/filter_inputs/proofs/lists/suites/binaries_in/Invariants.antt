use Rattle.std.proofs.Common.{map}
use Rattle.filter_inputs.specs.Lists.ListView.{listed_view}
use Rattle.filter_inputs.proofs.lists.ReadSuites.{AreReadTo}
use Rattle.filter_inputs.proofs.lists.suites.binaries_in.Given as goal

abbrev pub invariant-loop-id : goal.invariant-loop-id
invariant-loop-id l = AreReadTo l.suites.entries l.id-iterator (map listed_view l.binaries.items)
