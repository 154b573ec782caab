use Rattle.std.proofs.Common.{◌≡◌, List, [], ◌∷◌, ◌++◌, flat_map, Ok, ap, ◌∙◌, sym, refl}
use Rattle.std.proofs.lemmas.List.{append-nil}
use Rattle.std.proofs.lemmas.Grind.{flat_map-append}
use Rattle.std.proofs.lemmas.Result.{err_from_is_err_and}
use Rattle.serde_json.specs.View.{view}
use Rattle.filter_inputs.specs.declared.packages.edges.Edge.{Edge}
use Rattle.filter_inputs.specs.Packages.Metadata.{node_at}
use Rattle.filter_inputs.specs.Packages.Names.{ids_view}
use Rattle.filter_inputs.specs.Packages.Results.{and_then}
use Rattle.filter_inputs.proofs.packages.Gathering.{seen_step, seen_all, seen_fault}
use Rattle.filter_inputs.proofs.packages.metadata.node_list.Goals as goal

pub loop-place-init : goal.loop-place-init
loop-place-init c = ([], c.new-edges.ensures.items, refl)

pub returns-in_err-listed : goal.returns-in_err-listed
returns-in_err-listed c =
    let p = err_from_is_err_and c.from_residual.result c.from_residual.ensures.1 in
    rw (p.1, p.2)
    (λ has_memory. ap (λ r. and_then r (λ lists. Ok (flat_map (λ edges. edges) lists)))
    (seen_fault view (node_at (ids_view c.args.ids.now)) c.args.nodes.now c.loop-place.place _
    c.index-nodes-place.result c.in_err-listed.field-0.0 c.loop-place-test.true c.index-nodes-place.is
    (c.in_err-listed.ensures has_memory) c.loop-place.invariant.2))

pub loop-place-preserved : goal.loop-place-preserved
loop-place-preserved c =
    let done = c.loop-place.invariant.0 in
    let listed = c.in_ok-listed.listed.items in
    let join : (List (List Edge)) → List Edge = λ lists. flat_map (λ edges. edges) lists in
    let joined : join (done ++ listed ∷ []) ≡ join done ++ listed =
    flat_map-append (λ (edges : List Edge). edges) done (listed ∷ [])
    ∙ ap (λ more. join done ++ more) (append-nil listed) in (
      done ++ listed ∷ [],
      c.in_ok-extend_from_slice.ensures.items
          ∙ ap (λ more. c.loop-place.edges.items ++ more) c.deref.ensures.value
          ∙ ap (λ front. front ++ listed) c.loop-place.invariant.1
          ∙ sym joined,
      seen_step view (node_at (ids_view c.args.ids.now)) c.args.nodes.now c.loop-place.place done _
          c.index-nodes-place.result listed c.loop-place-test.true c.index-nodes-place.is
          c.in_ok-listed.ensures c.loop-place.invariant.2 refl,
    )

pub returns : goal.returns
returns c =
    ap (λ r. and_then r (λ lists. Ok (flat_map (λ edges. edges) lists)))
    (seen_all view (node_at (ids_view c.args.ids.now)) c.args.nodes.now c.loop-place.place _
    c.loop-place-test.false c.loop-place.invariant.2)
    ∙ ap Ok (sym c.loop-place.invariant.1)
