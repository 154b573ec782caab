use Rattle.std.proofs.Common.{map, subst}
use Rattle.std.specs.List.{AllZip}
use Rattle.filter_inputs.specs.Lists.ListView.{list_test_view}
use Rattle.rinqebo_diff.specs.Differences.{IsIdOf}
use Rattle.rinqebo_diff.proofs.sides.beside_of.Goals as goal

pub returns : goal.returns
returns c = record {
  binaries = c.in_ok-binaries.ensures;
  removed = subst (λ tests. AllZip IsIdOf (map list_test_view tests) c.in_ok-removed.removed.items) c.deref.ensures.value
      c.in_ok-removed.ensures;
  added = subst (λ tests. AllZip IsIdOf (map list_test_view tests) c.in_ok-added.added.items) c.deref-2.ensures.value
      c.in_ok-added.ensures;
}
