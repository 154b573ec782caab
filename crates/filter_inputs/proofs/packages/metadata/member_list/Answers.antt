use Rattle.std.proofs.Common.{sym}
use Rattle.std.proofs.lemmas.Result.{err_from_is_err_and}
use Rattle.serde_json.specs.View.{view}
use Rattle.filter_inputs.specs.Packages.Metadata.{member_at}
use Rattle.filter_inputs.specs.Packages.Names.{ids_view}
use Rattle.filter_inputs.proofs.packages.Gathering.{seen_fault}
use Rattle.filter_inputs.proofs.packages.metadata.member_list.Goals as goal

pub returns-in_err-member : goal.returns-in_err-member
returns-in_err-member c =
    let p = err_from_is_err_and c.from_residual.result c.from_residual.ensures.1 in
    rw (p.1, p.2)
    (λ _. seen_fault view (member_at (ids_view c.args.ids.now)) c.args.values.now c.loop-place.place _
    c.index-values-place.result c.in_err-member.field-0.0 c.loop-place-test.true c.index-values-place.is
    (sym c.in_err-member.ensures) c.loop-place.invariant)
