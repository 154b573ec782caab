use Rattle.std.proofs.Common.{take}
use Rattle.std.specs.List.{AllByRecursion}
use Rattle.nextest_documents.specs.Grounds.{ShowsLeaf}
use Rattle.nextest_documents.specs.Layers.{layers_view}
use Rattle.nextest_documents.specs.Leaves.{paths_view}
use Rattle.nextest_documents.proofs.grounds.shows_leaf_below.Given as goal

abbrev pub invariant-loop-leaf : goal.invariant-loop-leaf
invariant-loop-leaf l =
    AllByRecursion (λ p. ShowsLeaf (layers_view l.layers) p l.position → ⊥)
    (take l.leaf-index (paths_view l.leaf-items))
