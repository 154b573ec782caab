use Rattle.rinqebo_request.proofs.FeatureNames.{contained}
use Rattle.rinqebo_request.proofs.features.law_all_features.Goals as goal

pub returns : goal.returns
returns c = contained
