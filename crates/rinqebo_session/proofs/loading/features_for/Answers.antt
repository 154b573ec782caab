use Rattle.std.proofs.Common.{◌≡◌, ◌∙◌, ◌⊎◌, ◌↔◌, IsTrue, ap, option_map, subst}
use Rattle.nextest_rules.specs.KnownView.{features_view}
use Rattle.nextest_tree.specs.View.{tree_view}
use Rattle.rinqebo_forms.specs.Features.{AreFeaturesBy, IsSwitchedOnBy, experimental_in, tree_read}
use Rattle.rinqebo_forms.specs.Requests.{request_view}
use Rattle.rinqebo_session.specs.Loading.{repository_file}
use Rattle.rinqebo_session.proofs.loading.features_for.Goals as goal

pub returns : goal.returns
returns c =
    let asked = request_view c.args.asked.now in
    let named = features_view c.in_ok-named.named in
    let features = features_view c.in_ok-features.features in
    let document : option_map tree_view c.in_ok-document.document ≡ tree_read (repository_file asked).outcome =
    c.in_ok-document.ensures ∙ ap (λ file. tree_read file.outcome) c.repository_file.ensures in
    λ feature.
    subst (λ b. IsTrue (features feature)
    ↔ (IsTrue b ⊎ IsSwitchedOnBy (experimental_in (tree_read (repository_file asked).outcome)) feature))
    (c.in_ok-named.ensures feature)
    (subst (λ node. AreFeaturesBy named node features) document c.in_ok-features.ensures feature)
