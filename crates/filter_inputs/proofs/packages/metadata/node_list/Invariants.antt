use Rattle.std.proofs.Common.{◌≡◌, List, map, flat_map}
use Rattle.serde_json.specs.View.{view}
use Rattle.filter_inputs.specs.declared.packages.edges.Edge.{Edge}
use Rattle.filter_inputs.specs.Packages.Metadata.{node_at}
use Rattle.filter_inputs.specs.Packages.Names.{ids_view}
use Rattle.filter_inputs.proofs.packages.Gathering.{Gave}
use Rattle.filter_inputs.proofs.packages.metadata.node_list.Given as goal

abbrev pub invariant-loop-place : goal.invariant-loop-place
invariant-loop-place l =
    (done : List (List Edge)) × (l.edges.items ≡ flat_map (λ edges. edges) done)
    × Gave (node_at (ids_view l.ids)) (map view l.nodes) l.place done
