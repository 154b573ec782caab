use Rattle.std.proofs.Common.{ap, refl, subst}
use Rattle.filter_inputs.specs.Packages.GraphView.{graph_view}
use Rattle.rinqebo_forms.specs.Machines.{IsGraph}
use Rattle.rinqebo_forms.proofs.machines.filters_or.Goals as goal

pub returns-in-Ok-clause-ok : goal.returns-in-Ok-clause-ok
returns-in-Ok-clause-ok c =
    rw c.in-Some.is (
      graph_view c.in-Ok.graph,
      rw (← c.as_str.ensures.value) c.in-Ok.ensures.graph,
      rw c.with_graph.ensures refl,
    )
