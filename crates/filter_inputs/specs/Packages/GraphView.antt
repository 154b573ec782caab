-- The graph that a `PackageGraph` holds, and the names in a `MemberSet`.
use Rattle.std.specs.Prelude.{ℕ, Bool, List}
use Rattle.std.specs.BTreeSet.{contains_text}
use Rattle.filter_inputs.specs.Packages.Graph.{Graph}
use Rattle.filter_inputs.specs.Packages.Names.{names_view}
use Rattle.filter_inputs.specs.declared.packages.graph.PackageGraph.{PackageGraph}
use Rattle.filter_inputs.specs.declared.packages.member_set.MemberSet.{MemberSet}

-- the graph that is held
abbrev pub graph_view : PackageGraph → Graph
graph_view graph = record {
  names = names_view graph.names.items;
  members = graph.members.items;
  edges = graph.edges.items;
}

-- whether a name is in the set
abbrev pub has_member : MemberSet → List ℕ → Bool
has_member set name = contains_text set.names name
