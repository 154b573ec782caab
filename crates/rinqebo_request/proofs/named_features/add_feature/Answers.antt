use Rattle.std.proofs.Common.{refl}
use Rattle.rinqebo_forms.proofs.Switching.{added}
use Rattle.rinqebo_request.proofs.named_features.add_feature.Goals as goal

pub returns : goal.returns
returns c =
    added _ c.args.feature c.args.features.now c.insert.new.self c.in_ok-insert.ensures.keys refl refl (λ _. Unit {0}) tt
