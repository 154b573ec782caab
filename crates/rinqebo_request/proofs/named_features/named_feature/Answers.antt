use Rattle.rinqebo_request.specs.declared.words.ParseStop.TheVariants as stops
use Rattle.rinqebo_request.proofs.Refusing.{no_feature}
use Rattle.rinqebo_request.proofs.files.Passing.{passed}
use Rattle.rinqebo_request.proofs.named_features.named_feature.Goals as goal

pub returns-in_ok-no_feature-in-None-clause-err : goal.returns-in_ok-no_feature-in-None-clause-err
returns-in_ok-no_feature-in-None-clause-err c =
    no_feature _ c.args.name.now c.in_ok-no_feature-in-None.field-0 (λ named. c.in-None.ensures named.0 named.1) c.in_ok-no_feature-in-None.ensures

pub returns-in_err-no_feature-in-None-clause-err : goal.returns-in_err-no_feature-in-None-clause-err
returns-in_err-no_feature-in-None-clause-err c = passed _ c.from_residual.result stops.Memory c.from_residual.ensures.1 tt
