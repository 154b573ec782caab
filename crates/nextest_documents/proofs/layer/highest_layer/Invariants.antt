use Rattle.std.proofs.Common.{◌-◌, drop}
use Rattle.std.specs.List.{AllByRecursion}
use Rattle.nextest_documents.specs.Layers.{keys_view}
use Rattle.nextest_documents.proofs.Highest.{LosesWay}
use Rattle.nextest_documents.proofs.layer.highest_layer.Given as goal

abbrev pub invariant-down : goal.invariant-down
invariant-down l = AllByRecursion (LosesWay (keys_view l.path)) (drop (l.count - l.back) l.layers)
