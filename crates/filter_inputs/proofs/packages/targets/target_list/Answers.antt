use Rattle.std.proofs.Common.{ap, ◌∙◌}
use Rattle.std.proofs.lemmas.List.{map-append}
use Rattle.std.proofs.lemmas.Result.{err_from_is_err_and}
use Rattle.serde_json.specs.View.{view}
use Rattle.filter_inputs.specs.Packages.Targets.{target_at}
use Rattle.filter_inputs.specs.Packages.TargetView.{target_view, targets_view}
use Rattle.filter_inputs.proofs.packages.Gathering.{seen_step, seen_fault}
use Rattle.filter_inputs.proofs.packages.targets.target_list.Goals as goal

pub returns-in_err-target : goal.returns-in_err-target
returns-in_err-target c =
    let p = err_from_is_err_and c.from_residual.result c.from_residual.ensures.1 in
    rw (p.1, p.2)
    (λ has_memory. seen_fault view
    (target_at c.args.member.id.now c.args.member.name.now c.args.member.place) c.args.values.now
    c.loop-place.place _ c.index-values-place.result c.in_err-target.field-0.0 c.loop-place-test.true
    c.index-values-place.is (c.in_err-target.ensures has_memory) c.loop-place.invariant)

pub loop-place-preserved : goal.loop-place-preserved
loop-place-preserved c =
    seen_step view (target_at c.args.member.id.now c.args.member.name.now c.args.member.place) c.args.values.now
    c.loop-place.place (targets_view c.loop-place.targets.items) (targets_view c.push.new.self.items)
    c.index-values-place.result (target_view c.in_ok-target.target) c.loop-place-test.true
    c.index-values-place.is c.in_ok-target.ensures c.loop-place.invariant
    (ap targets_view c.in_ok-push.ensures.items ∙ map-append target_view c.loop-place.targets.items _)
