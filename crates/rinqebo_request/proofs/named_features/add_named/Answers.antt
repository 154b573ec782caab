use Rattle.std.proofs.Common.{◌∙◌, [], Bor, List, get_or, map, refl, ℕ}
use Rattle.nextest_rules.specs.KnownView.{features_view}
use Rattle.rinqebo_request.proofs.NamedFeatures.{no_more, one_more}
use Rattle.rinqebo_request.specs.declared.words.ParseStop.TheVariants as stops
use Rattle.rinqebo_request.proofs.Refusing.{among, no_feature_of}
use Rattle.rinqebo_request.proofs.files.Passing.{passed}
use Rattle.rinqebo_request.proofs.named_features.add_named.Goals as goal

pub loop-name-init : goal.loop-name-init
loop-name-init c = λ feature. refl

pub loop-name-preserved : goal.loop-name-preserved
loop-name-preserved c =
    let none : Bor (List ℕ) = record { ref_ptr = (0, 0); now = [] } in
    λ feature. one_more c.args.names.now c.loop-name.name-index none feature c.in_ok-feature.feature
    (features_view c.loop-name.features feature) _ c.loop-name-test.true c.in_ok-feature.ensures.ok
    (c.in_ok-add_feature.ensures feature) ∙ c.loop-name.invariant feature

pub returns-clause-ok : goal.returns-clause-ok
returns-clause-ok c =
    λ feature. no_more c.args.names.now c.loop-name.name-index feature (features_view c.loop-name.features feature) c.loop-name-test.false
    ∙ c.loop-name.invariant feature

pub returns-in_err-feature-clause-err : goal.returns-in_err-feature-clause-err
returns-in_err-feature-clause-err c =
    let none : Bor (List ℕ) = record { ref_ptr = (0, 0); now = [] } in
    passed _ c.from_residual.result c.in_err-feature.field-0.0 c.from_residual.ensures.1
    (no_feature_of (map (λ name. name.now) c.args.names.now) (get_or c.args.names.now c.loop-name.name-index none).now c.in_err-feature.field-0.0
    (among c.args.names.now c.loop-name.name-index none c.loop-name-test.true) c.in_err-feature.ensures.err)

pub returns-in_err-add_feature-clause-err : goal.returns-in_err-add_feature-clause-err
returns-in_err-add_feature-clause-err c =
    passed _ c.from_residual-in_err-add_feature.result stops.Memory c.from_residual-in_err-add_feature.ensures.1 tt
