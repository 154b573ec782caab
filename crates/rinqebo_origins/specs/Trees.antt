-- The trees of layers.
use Rattle.std.specs.Prelude.{List, map, unwrap_or}
use Rattle.nextest_tree.specs.Node.{Node, table, no_entries}
use Rattle.rinqebo_request.specs.Files.Layers.{layer_tree}
use Rattle.rinqebo_request.specs.declared.files.layers.Layer.{Layer}

-- the trees of layers; a layer without a document writes nothing
abbrev pub trees_of : List Layer → List Node
trees_of layers = map (λ layer. unwrap_or (layer_tree layer) (table no_entries)) layers
