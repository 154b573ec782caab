use Rattle.std.proofs.Common.{sym, subst}
use Rattle.std.proofs.lemmas.Result.{IfOk-weaker}
use Rattle.filter_inputs.specs.Packages.Edges.{Reaches}
use Rattle.filter_inputs.proofs.packages.Reaching.{unturned}
use Rattle.filter_inputs.proofs.packages.graph.PackageGraph.dependencies_of.Goals as goal

pub returns : goal.returns
returns g c = IfOk-weaker c.found_from.result _ _
    (λ set says name. (
      (λ h. let found = (says name).0 h in let a = found.0 in let b = found.1 in let way = found.4 in
          (a, b, found.2, found.3, subst (λ edges. Reaches edges a b) (unturned c.args.self.now.edges.items) way)),
      (λ (a, b, from, named, way). (says name).1
          (a, b, from, named, subst (λ edges. Reaches edges a b) (sym (unturned c.args.self.now.edges.items)) way)),
    ))
    c.found_from.ensures
