use Rattle.std.proofs.Common.{take}
use Rattle.rinqebo_forms.specs.Features.{AreAdded}
use Rattle.rinqebo_request.specs.Variables.{IsSwitchedOn}
use Rattle.rinqebo_request.specs.declared.features.TheConstants.{FEATURES}
use Rattle.rinqebo_request.proofs.named_features.add_switched.Given as goal

-- of the features so far those that variables enable are there
abbrev pub invariant-loop-feature : goal.invariant-loop-feature
invariant-loop-feature l =
    AreAdded (IsSwitchedOn l.environment) (take l.feature-index FEATURES) l.fn.features l.features
