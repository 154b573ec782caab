use Rattle.std.proofs.Common.{map, refl, ◌∙◌}
use Rattle.filter_inputs.specs.Packages.Edges.{oriented, itself}
use Rattle.filter_inputs.proofs.packages.Spreading.{closed_reaches, reached_again}
use Rattle.filter_inputs.proofs.packages.search.reach.Goals as goal

pub loop-direction-init : goal.loop-direction-init
loop-direction-init c = record
    { same_length = refl; keeps = λ place m. m; reached = λ place m. (place, m, itself place) }

pub loop-direction-preserved : goal.loop-direction-preserved
loop-direction-preserved c = record {
  same_length = c.spread.ensures.length ∙ c.loop-direction.invariant.same_length;
  keeps = λ place m. c.spread.ensures.keeps place (c.loop-direction.invariant.keeps place m);
  reached = reached_again (map (oriented c.args.direction) c.args.edges.now) _ _ _
      c.loop-direction.invariant.reached c.spread.ensures.reached;
}

pub returns-clause-reached : goal.returns-clause-reached
returns-clause-reached c place =
    let edges = map (oriented c.args.direction) c.args.edges.now in
    let reached = reached_again edges _ _ _ c.loop-direction.invariant.reached c.spread.ensures.reached in
    let closed = c.loop-direction-test.ensures.closed in (
      reached place,
      λ (start, m, r). closed_reaches c.spread.new.marks.items closed
          (c.spread.ensures.keeps start (c.loop-direction.invariant.keeps start m)) r,
    )
