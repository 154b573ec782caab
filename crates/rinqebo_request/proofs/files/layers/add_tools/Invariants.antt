use Rattle.std.proofs.Common.{◌≡◌, ◌++◌, map, reverse, take}
use Rattle.rinqebo_request.specs.Files.Layers.{layer_view, tool_layer}
use Rattle.rinqebo_request.proofs.files.layers.add_tools.Given as goal

-- the layers so far
abbrev pub invariant-down : goal.invariant-down
invariant-down l =
    map layer_view l.layers.items
    ≡ map layer_view l.initial.layers.items ++ map tool_layer (take l.back (reverse l.tools))
