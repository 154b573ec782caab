use Rattle.std.proofs.Common.{◌≡◌, ◌<◌, length, map, vec_len, get_or, refl, sym, subst, ◌∙◌, arith}
use Rattle.std.proofs.lemmas.List.{length-map, get_or-map}
use Rattle.filter_inputs.specs.Packages.Edges.{oriented}
use Rattle.filter_inputs.proofs.packages.Spreading.{below_oriented, spread_start, spread_step, spread_closed}
use Rattle.filter_inputs.specs.Packages.Marks.{IsBelow}
use Rattle.filter_inputs.proofs.packages.search.spread.Goals as goal

pub loop-edge-init : goal.loop-edge-init
loop-edge-init c = record { same_length = refl; spread = spread_start _ _ }

pub loop-edge-preserved : goal.loop-edge-preserved
loop-edge-preserved c =
    let turn = oriented c.args.direction in
    let edges = map turn c.args.edges.now in
    let n = c.loop-edge.edge-index in
    let edge = c.oriented.result in
    let within : n < length edges = omega (arith, length-map c.args.edges.now turn) in
    let at : edge ≡ get_or edges n edge =
    c.oriented.ensures ∙ sym (get_or-map turn c.args.edges.now n _ edge c.loop-edge-test.true) in
    let below : IsBelow (vec_len c.args.marks.now) edge =
    subst (IsBelow (vec_len c.args.marks.now)) (sym c.oriented.ensures)
    (below_oriented c.args.direction (vec_len c.args.marks.now) _ (c.requires n _ c.loop-edge-test.true)) in
    record {
      same_length = c.follow-has_grown.ensures.length ∙ c.loop-edge.invariant.same_length;
      spread = spread_step edges c.args.marks.now.items c.loop-edge.marks.items
          c.follow-has_grown.new.marks.items n c.loop-edge.has_grown c.follow-has_grown.result edge within at
          (omega (arith, below)) c.loop-edge.invariant.spread c.follow-has_grown.ensures.mark;
    }

pub returns-clause-closed : goal.returns-clause-closed
returns-clause-closed c =
    let edges = map (oriented c.args.direction) c.args.edges.now in
    spread_closed edges _ _ _ _ (omega (arith, length-map c.args.edges.now (oriented c.args.direction)))
    c.loop-edge.invariant.spread
