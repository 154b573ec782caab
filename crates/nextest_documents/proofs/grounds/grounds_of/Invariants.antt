use Rattle.std.proofs.Common.{take}
use Rattle.std.specs.List.{AllByRecursion}
use Rattle.nextest_documents.specs.Grounds.{Writes}
use Rattle.nextest_documents.specs.Layers.{layers_view, keys_view}
use Rattle.nextest_documents.proofs.grounds.grounds_of.Given as goal

abbrev pub invariant-loop-profile : goal.invariant-loop-profile
invariant-loop-profile l =
    AllByRecursion (λ name. Writes (layers_view l.layers) (keys_view l.key) name → ⊥)
    (take l.profile (keys_view l.chain))
