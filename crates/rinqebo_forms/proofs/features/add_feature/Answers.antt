use Rattle.std.proofs.Common.{refl, subst, sym}
use Rattle.nextest_elements.specs.Experimental.{experimental_text}
use Rattle.nextest_tree.specs.View.{tree_view}
use Rattle.rinqebo_forms.specs.Features.{SwitchesOn}
use Rattle.rinqebo_forms.proofs.Switching.{added, left_out, not_both}
use Rattle.rinqebo_forms.proofs.features.add_feature.Goals as goal

pub returns-then-switches_on : goal.returns-then-switches_on
returns-then-switches_on c =
    let written = tree_view c.args.written.now in
    let on : SwitchesOn written (experimental_text c.args.feature) =
    subst (λ name. SwitchesOn written name) c.feature_name.ensures (c.switches_on.ensures.0 c.if-switches_on.true) in
    added _ c.args.feature c.args.features.now c.insert.new.self c.in_ok-insert.ensures.keys refl refl
    (λ f. SwitchesOn written (experimental_text f)) on

pub returns : goal.returns
returns c =
    let written = tree_view c.args.written.now in
    left_out (λ f. SwitchesOn written (experimental_text f)) c.args.feature c.args.features.now
    (λ on. not_both c.switches_on.result (c.switches_on.ensures.1
    (subst (λ name. SwitchesOn written name) (sym c.feature_name.ensures) on)) c.if-switches_on.false)
