use Rattle.std.proofs.Common.{◌∙◌, ap, refl}
use Rattle.std.specs.Prelude.{codes}
use Rattle.rinqebo_faults.specs.Features.{kind_of_feature}
use Rattle.rinqebo_faults.proofs.Suffixes.{without_is}
use Rattle.rinqebo_faults.proofs.feature_words.kind_of_feature.Goals as goal

pub returns : goal.returns
unfolding kind_of_feature
returns c =
    ap (λ r. r.now) c.unwrap_or.ensures
    ∙ without_is (codes "-scripts") c.args.feature.now c.strip_suffix.result c.args.feature refl
    c.strip_suffix.ensures.cases
