use Rattle.std.proofs.Common.{codes, ap, ◌∙◌, sym}
use Rattle.std.proofs.lemmas.List.{map-append}
use Rattle.std.proofs.lemmas.Result.{err_from_is_err_and}
use Rattle.serde_json.specs.View.{view}
use Rattle.filter_inputs.specs.declared.packages.fault.MetadataPlace.TheVariants.{PackageId}
use Rattle.filter_inputs.specs.Packages.Metadata.{text_under}
use Rattle.filter_inputs.specs.Packages.Names.{ids_view}
use Rattle.filter_inputs.proofs.packages.Gathering.{seen_step, seen_fault}
use Rattle.filter_inputs.proofs.packages.metadata.package_ids.Goals as goal

pub returns-in_err-id : goal.returns-in_err-id
returns-in_err-id c =
    let p = err_from_is_err_and c.from_residual.result c.from_residual.ensures.1 in
    rw (p.1, p.2)
    (λ _. seen_fault view (λ place. text_under (codes "id") (PackageId place)) c.args.packages.now
    c.loop-place.place _ c.index-packages-place.result c.in_err-id.field-0.0 c.loop-place-test.true
    c.index-packages-place.is (sym c.in_err-id.ensures) c.loop-place.invariant)

pub loop-place-preserved : goal.loop-place-preserved
loop-place-preserved c =
    seen_step view (λ place. text_under (codes "id") (PackageId place)) c.args.packages.now c.loop-place.place
    (ids_view c.loop-place.ids.items) (ids_view c.push.new.self.items) c.index-packages-place.result
    c.in_ok-id.id.now c.loop-place-test.true c.index-packages-place.is (sym c.in_ok-id.ensures)
    c.loop-place.invariant
    (ap ids_view c.in_ok-push.ensures.items ∙ map-append (λ id. id.now) c.loop-place.ids.items _)
