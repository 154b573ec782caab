use Rattle.std.proofs.Common.{codes, ap, ◌∙◌, sym, string_bytes, ◌++◌, ◌∷◌, []}
use Rattle.std.proofs.lemmas.List.{map-append}
use Rattle.std.proofs.lemmas.Result.{err_from_is_err_and}
use Rattle.serde_json.specs.View.{view}
use Rattle.filter_inputs.specs.declared.packages.fault.MetadataPlace.TheVariants.{PackageName}
use Rattle.filter_inputs.specs.Packages.Metadata.{text_under}
use Rattle.filter_inputs.specs.Packages.Names.{names_view}
use Rattle.filter_inputs.proofs.packages.Gathering.{seen_step, seen_fault}
use Rattle.filter_inputs.proofs.packages.metadata.package_names.Goals as goal

pub returns-in_err-name : goal.returns-in_err-name
returns-in_err-name c =
    let p = err_from_is_err_and c.from_residual.result c.from_residual.ensures.1 in
    rw (p.1, p.2)
    (λ _. seen_fault view (λ place. text_under (codes "name") (PackageName place)) c.args.packages.now
    c.loop-place.place _ c.index-packages-place.result c.in_err-name.field-0.0 c.loop-place-test.true
    c.index-packages-place.is (sym c.in_err-name.ensures) c.loop-place.invariant)

pub loop-place-preserved : goal.loop-place-preserved
loop-place-preserved c =
    seen_step view (λ place. text_under (codes "name") (PackageName place)) c.args.packages.now
    c.loop-place.place (names_view c.loop-place.names.items) (names_view c.push.new.self.items)
    c.index-packages-place.result c.in_ok-name.name.now c.loop-place-test.true c.index-packages-place.is
    (sym c.in_ok-name.ensures) c.loop-place.invariant
    (ap names_view c.in_ok-push.ensures.items ∙ map-append string_bytes c.loop-place.names.items _
    ∙ ap (λ name. names_view c.loop-place.names.items ++ name ∷ []) c.in_ok-from_str.ensures.ok)
