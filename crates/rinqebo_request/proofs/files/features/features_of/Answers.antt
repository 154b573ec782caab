use Rattle.std.proofs.Common.{◌∙◌, subst, IfOk}
use Rattle.nextest_rules.specs.KnownView.{features_view}
use Rattle.rinqebo_forms.specs.Features.{AreFeaturesBy}
use Rattle.rinqebo_request.proofs.files.Highest.{repository_last}
use Rattle.rinqebo_request.proofs.files.features.features_of.Goals as goal

pub returns : goal.returns
returns c = λ gathered are.
    subst (λ document. IfOk c.features_by.result
    (λ features. AreFeaturesBy (features_view c.args.named.now) document (features_view features)))
    (c.highest_tree.ensures ∙ repository_last c.args.layers.now gathered are) c.features_by.ensures
