use Rattle.std.proofs.Common.{refl, subst}
use Rattle.rinqebo_request.specs.Requests.{HasNamed}
use Rattle.rinqebo_request.proofs.Choosing.{texts_or}
use Rattle.rinqebo_request.proofs.NamedFeatures.{all_named}
use Rattle.rinqebo_request.specs.Refusals.{IsFeatureRefusal}
use Rattle.rinqebo_request.specs.declared.words.ParseStop.TheVariants as stops
use Rattle.rinqebo_request.proofs.files.Passing.{passed}
use Rattle.rinqebo_request.proofs.named_features.features.Goals as goal

pub returns-clause-ok : goal.returns-clause-ok
returns-clause-ok c =
    let named = subst (λ names. HasNamed names c.add_switched.new.features c.add_named.new.features)
    (texts_or c.values.result _ c.unwrap_or.result _ refl c.unwrap_or.ensures c.values.ensures) c.in_ok-add_named.ensures.ok in
    all_named c.args.environment.now _ _ _ _ c.new-features.ensures.empty c.in_ok-add_switched.ensures named

pub returns-in_err-add_switched-clause-err : goal.returns-in_err-add_switched-clause-err
returns-in_err-add_switched-clause-err c = passed _ c.from_residual.result stops.Memory c.from_residual.ensures.1 tt

pub returns-in_err-add_named-clause-err : goal.returns-in_err-add_named-clause-err
returns-in_err-add_named-clause-err c =
    passed _ c.from_residual-in_err-add_named.result c.in_err-add_named.field-0.0 c.from_residual-in_err-add_named.ensures.1
    (subst (λ names. IsFeatureRefusal names c.in_err-add_named.field-0.0)
    (texts_or c.values.result _ c.unwrap_or.result _ refl c.unwrap_or.ensures c.values.ensures) c.in_err-add_named.ensures.err)
