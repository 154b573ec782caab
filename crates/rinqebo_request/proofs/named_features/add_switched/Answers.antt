use Rattle.std.proofs.Common.{refl, subst}
use Rattle.std.proofs.lemmas.List.{take_all}
use Rattle.rinqebo_forms.specs.Features.{AreAdded}
use Rattle.rinqebo_forms.proofs.Switching.{none_yet, one_more}
use Rattle.rinqebo_request.specs.Variables.{IsSwitchedOn}
use Rattle.rinqebo_request.specs.declared.features.TheConstants.{FEATURES}
use Rattle.rinqebo_request.proofs.named_features.add_switched.Goals as goal

pub loop-feature-init : goal.loop-feature-init
loop-feature-init c = none_yet (IsSwitchedOn c.args.environment.now) c.args.features.now

pub loop-feature-preserved : goal.loop-feature-preserved
loop-feature-preserved c =
    one_more (IsSwitchedOn c.args.environment.now) FEATURES c.loop-feature.feature-index _ _
    c.loop-feature-test.true refl c.args.features.now c.loop-feature.features
    c.add_if_switched.new.features c.loop-feature.invariant c.in_ok-add_if_switched.ensures

pub returns : goal.returns
returns c =
    subst (λ some. AreAdded (IsSwitchedOn c.args.environment.now) some c.args.features.now c.loop-feature.features)
    (take_all c.loop-feature.feature-index FEATURES c.loop-feature-test.false) c.loop-feature.invariant
