use Rattle.std.proofs.Common.{◌-◌}
use Rattle.nextest_documents.specs.Layers.{layers_view, keys_view}
use Rattle.nextest_documents.proofs.Descending.{AreGroundsFrom}
use Rattle.nextest_documents.proofs.grounds.layers_with_leaves.Given as goal

abbrev pub invariant-down : goal.invariant-down
invariant-down l = AreGroundsFrom (layers_view l.layers) (keys_view l.path) (l.count - l.back) l.positions.items
