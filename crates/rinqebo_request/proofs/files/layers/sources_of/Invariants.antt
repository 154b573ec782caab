use Rattle.std.proofs.Common.{◌≡◌, map, take}
use Rattle.rinqebo_request.specs.Files.Origins.{reported_file}
use Rattle.rinqebo_request.proofs.files.layers.sources_of.Given as goal

-- the sources so far
abbrev pub invariant-loop-layer : goal.invariant-loop-layer
invariant-loop-layer l =
    map reported_file l.sources.items ≡ map (λ layer. reported_file layer.source) (take l.layer-index l.layers)
