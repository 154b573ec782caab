use Rattle.std.proofs.Common.{sym}
use Rattle.std.proofs.lemmas.Result.{err_from_is_err_and}
use Rattle.serde_json.specs.View.{view}
use Rattle.filter_inputs.specs.Packages.Metadata.{edge_at}
use Rattle.filter_inputs.specs.Packages.Names.{ids_view}
use Rattle.filter_inputs.proofs.packages.Gathering.{seen_fault}
use Rattle.filter_inputs.proofs.packages.metadata.edge_list.Goals as goal

pub returns-in_err-edge : goal.returns-in_err-edge
returns-in_err-edge c =
    let p = err_from_is_err_and c.from_residual.result c.from_residual.ensures.1 in
    rw (p.1, p.2)
    (λ _. seen_fault view (edge_at (ids_view c.args.ids.now) c.args.node c.args.from) c.args.values.now
    c.loop-place.place _ c.index-values-place.result c.in_err-edge.field-0.0 c.loop-place-test.true
    c.index-values-place.is (sym c.in_err-edge.ensures) c.loop-place.invariant)
