use Rattle.std.proofs.Common.{map, sym, subst}
use Rattle.std.proofs.lemmas.Result.{IfOk-weaker}
use Rattle.filter_inputs.specs.Packages.Edges.{Reaches, oriented}
use Rattle.filter_inputs.specs.Packages.Marks.{IsMarked}
use Rattle.filter_inputs.proofs.packages.graph.PackageGraph.found_from.Goals as goal

pub returns : goal.returns
returns g c = IfOk-weaker c.marked_members.result _ _
    (λ set says name.
    let matched = c.in_ok-marks.ensures.matched in
    let reached = c.reach.ensures.reached in
    let seen = c.deref-2.ensures.value in (
      (λ h.
          let member = (says name).0 h in
          let start = (reached member.0).0 (subst (λ marks. IsMarked marks member.0) seen member.2) in (
            start.0,
            member.0,
            (matched start.0).0 start.1,
            member.1,
            subst
                (λ edges. Reaches (map (oriented c.args.direction) edges) start.0 member.0)
                c.deref.ensures.value start.2,
          )),
      (λ (a, b, from, named, way).
          (says name).1 (
            b,
            named,
            subst (λ marks. IsMarked marks b) (sym seen)
                ((reached b).1 (
                  a,
                  (matched a).1 from,
                  subst
                      (λ edges. Reaches (map (oriented c.args.direction) edges) a b) (sym c.deref.ensures.value) way,
                )),
          )),
    ))
    c.marked_members.ensures
