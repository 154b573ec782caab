use Rattle.platform_language.proofs.Knowledge.{features_change_nothing}
use Rattle.platform_language.proofs.laws.law_features.Goals as goal

pub returns : goal.returns
returns c = features_change_nothing
