use Rattle.std.proofs.Common.{◌≡◌, ◌<◌, true, refl, arith, rules}
use Rattle.nextest_elements.specs.Experimental.{experimental_text}
use Rattle.rinqebo_request.proofs.FeatureNames.{place, within, at_place}
use Rattle.rinqebo_keys.proofs.KeyLists.{none_more}
use Rattle.rinqebo_request.specs.declared.features.TheConstants.{FEATURES}
use Rattle.rinqebo_request.proofs.features.feature_of.Goals as goal

pub loop-feature-preserved : goal.loop-feature-preserved
loop-feature-preserved c =
    none_more experimental_text FEATURES c.args.name.now c.loop-feature.feature-index _ _
    c.loop-feature-test.true refl c.loop-feature.invariant
    (λ is. let has : c.has_name.result ≡ true = c.has_name.ensures.1 is in search rules)

pub returns : goal.returns
returns c =
    λ feature.
    let here : place feature < 2 = within feature in
    let so_far : place feature < c.loop-feature.feature-index = omega (arith, c.loop-feature-test.false, here) in
    c.loop-feature.invariant (place feature) so_far feature (at_place feature)
