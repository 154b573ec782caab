use Rattle.std.proofs.Common.{map}
use Rattle.serde_json.specs.View.{view}
use Rattle.filter_inputs.specs.Packages.Metadata.{edge_at}
use Rattle.filter_inputs.specs.Packages.Names.{ids_view}
use Rattle.filter_inputs.proofs.packages.Gathering.{Gave}
use Rattle.filter_inputs.proofs.packages.metadata.edge_list.Given as goal

abbrev pub invariant-loop-place : goal.invariant-loop-place
invariant-loop-place l = Gave (edge_at (ids_view l.ids) l.node l.from) (map view l.values) l.place l.edges.items
