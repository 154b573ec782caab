use Rattle.std.proofs.lemmas.Result.{IfOk-weaker}
use Rattle.filter_inputs.proofs.packages.Reaching.{reaches_turned, turned_reaches}
use Rattle.filter_inputs.proofs.packages.graph.PackageGraph.dependents_of.Goals as goal

pub returns : goal.returns
returns g c = IfOk-weaker c.found_from.result _ _
    (λ set says name. (
      (λ h. let found = (says name).0 h in let a = found.0 in let b = found.1 in let way = found.4 in
          (a, b, found.2, found.3, reaches_turned c.args.self.now.edges.items way)),
      (λ (a, b, from, named, way). (says name).1 (a, b, from, named, turned_reaches c.args.self.now.edges.items way)),
    ))
    c.found_from.ensures
