use Rattle.std.proofs.Common.{◌≡◌, option_map}
use Rattle.std.proofs.lemmas.List.Elements.{same_from_all_zip}
use Rattle.nextest_tree.specs.View.{tree_view}
use Rattle.rinqebo_forms.specs.Features.{experimental_in}
use Rattle.rinqebo_forms.proofs.Switching.{copied}
use Rattle.rinqebo_forms.proofs.features.features_by.Goals as goal

pub returns : goal.returns
returns c =
    let named = c.args.named.now in
    let copy = c.in_ok-features.features in
    let same : copy.keys ≡ named.keys =
    same_from_all_zip _ named.keys copy.keys c.in_ok-features.ensures.cases (λ x y is. is) in
    copied (experimental_in (option_map (λ tree. tree_view tree.now) c.args.document)) named copy
    c.add_switched.new.features same c.in_ok-add_switched.ensures
