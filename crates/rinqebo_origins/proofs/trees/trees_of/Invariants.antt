use Rattle.std.proofs.Common.{◌≡◌, take}
use Rattle.nextest_documents.specs.Layers.{layers_view}
use Rattle.rinqebo_origins.specs.Trees.{trees_of}
use Rattle.rinqebo_origins.proofs.trees.trees_of.Given as goal

-- the trees so far
abbrev pub invariant-loop-layer : goal.invariant-loop-layer
invariant-loop-layer l = layers_view l.trees.items ≡ trees_of (take l.layer-index l.layers)
