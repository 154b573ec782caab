use Rattle.std.proofs.Common.{refl}
use Rattle.std.proofs.lemmas.List.{take_all}
use Rattle.nextest_elements.specs.Experimental.{experimental_text}
use Rattle.nextest_tree.specs.View.{tree_view}
use Rattle.rinqebo_forms.specs.declared.features.TheConstants.{FEATURES}
use Rattle.rinqebo_forms.specs.Features.{SwitchesOn}
use Rattle.rinqebo_forms.proofs.Switching.{all_looked_at, none_yet, one_more}
use Rattle.rinqebo_forms.proofs.features.add_features.Goals as goal

pub loop-feature-init : goal.loop-feature-init
loop-feature-init c =
    none_yet (λ f. SwitchesOn (tree_view c.args.written.now) (experimental_text f)) c.args.features.now

pub loop-feature-preserved : goal.loop-feature-preserved
loop-feature-preserved c =
    one_more (λ f. SwitchesOn (tree_view c.args.written.now) (experimental_text f)) FEATURES
    c.loop-feature.feature-index _ _ c.loop-feature-test.true refl c.args.features.now c.loop-feature.features
    c.add_feature.new.features c.loop-feature.invariant c.in_ok-add_feature.ensures

pub returns : goal.returns
returns c =
    all_looked_at (tree_view c.args.written.now) _ c.args.features.now c.loop-feature.features
    (take_all c.loop-feature.feature-index FEATURES c.loop-feature-test.false) c.loop-feature.invariant
