use Rattle.std.proofs.Common.{[], subst}
use Rattle.rinqebo_checks.specs.Refusals.{AddsRefusal}
use Rattle.rinqebo_checks.proofs.refusals.refusal_findings.Goals as goal

pub returns : goal.returns
returns c =
    let left_out = c.args.left_out.now in
    let new = c.add_kind.new.findings.items in
    subst (λ layers. AddsRefusal layers c.args.position left_out c.args.error.now.kind [] new) c.deref.ensures.value
    (subst (λ kind. AddsRefusal c.deref.result.now c.args.position left_out kind [] new) c.kind-2.ensures
    (subst (λ old. AddsRefusal c.deref.result.now c.args.position left_out c.kind-2.result.now old new)
    c.new-findings.ensures.items c.in_ok-add_kind.ensures))
