use Rattle.std.proofs.Common.{refl}
use Rattle.rinqebo_forms.proofs.Switching.{added, left_out, not_both}
use Rattle.rinqebo_request.specs.Variables.{IsSwitchedOn}
use Rattle.rinqebo_request.proofs.named_features.add_if_switched.Goals as goal

pub returns-then-switches_on : goal.returns-then-switches_on
returns-then-switches_on c =
    added _ c.args.feature c.args.features.now c.insert.new.self c.in_ok-insert.ensures.keys refl refl
    (IsSwitchedOn c.args.environment.now) (c.switches_on.ensures.0 c.if-switches_on.true)

pub returns : goal.returns
returns c =
    left_out (IsSwitchedOn c.args.environment.now) c.args.feature c.args.features.now
    (λ on. not_both c.switches_on.result (c.switches_on.ensures.1 on) c.if-switches_on.false)
