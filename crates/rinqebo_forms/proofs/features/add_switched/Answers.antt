use Rattle.std.proofs.Common.{option_map, subst, sym}
use Rattle.std.specs.Prelude.{OnOk}
use Rattle.nextest_tree.specs.View.{tree_view}
use Rattle.rinqebo_forms.specs.Features.{experimental_in, AreWith}
use Rattle.rinqebo_forms.proofs.Switching.{nothing_more}
use Rattle.rinqebo_forms.proofs.features.add_switched.Goals as goal

pub returns-in-Some : goal.returns-in-Some
returns-in-Some c =
    let before = c.args.features.now in
    let after = c.add_written.new.features in
    subst (λ d. OnOk c.add_written.result
    (AreWith (experimental_in (option_map (λ tree. tree_view tree.now) d)) before after)) (sym c.in-Some.is)
    (subst (λ o. OnOk c.add_written.result (AreWith o before after)) c.get.ensures c.add_written.ensures)

pub returns-in-None : goal.returns-in-None
returns-in-None c =
    subst (λ d. AreWith (experimental_in (option_map (λ tree. tree_view tree.now) d)) c.args.features.now
    c.args.features.now) (sym c.in-None.is) (nothing_more c.args.features.now)
