use Rattle.std.proofs.Common.{option_map, subst, sym}
use Rattle.std.specs.Prelude.{OnOk}
use Rattle.nextest_tree.specs.View.{tree_view}
use Rattle.rinqebo_forms.specs.Features.{AreWith}
use Rattle.rinqebo_forms.proofs.Switching.{nothing_more}
use Rattle.rinqebo_forms.proofs.features.add_written.Goals as goal

pub returns-in-Some : goal.returns-in-Some
returns-in-Some c =
    subst (λ o. OnOk c.add_features.result (AreWith (option_map (λ tree. tree_view tree.now) o) c.args.features.now
    c.add_features.new.features)) (sym c.in-Some.is) c.add_features.ensures

pub returns-in-None : goal.returns-in-None
returns-in-None c =
    subst (λ o. AreWith (option_map (λ tree. tree_view tree.now) o) c.args.features.now c.args.features.now)
    (sym c.in-None.is) (nothing_more c.args.features.now)
