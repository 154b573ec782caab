use Rattle.std.proofs.Common.{◌≡◌, ◌↔◌, false, subst}
use Rattle.std.specs.List.{AllByRecursion}
use Rattle.nextest_documents.specs.Grounds.{Writes}
use Rattle.nextest_documents.specs.Layers.{layers_view, keys_view}
use Rattle.nextest_documents.proofs.Results.{overruled}
use Rattle.nextest_documents.proofs.entries.is_overruled.Goals as goal

pub returns-in_ok-grounds-in-Profile : goal.returns-in_ok-grounds-in-Profile
returns-in_ok-grounds-in-Profile c =
    let L = layers_view c.args.layers.now in
    let names = keys_view c.in-Profile.nearer.now in
    let both = overruled L names (keys_view c.value_path.result.now) c.in_ok-grounds-in-Profile.grounds
    c.is_some.result c.in_ok-grounds-in-Profile.ensures c.is_some.ensures in
    let all = subst (λ key. (c.is_some.result ≡ false) ↔ AllByRecursion (λ name. Writes L key name → ⊥) names)
    c.value_path.ensures both in
    rw c.in-Profile.is all
