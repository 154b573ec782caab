use Rattle.std.proofs.Common.{take}
use Rattle.nextest_elements.specs.Experimental.{experimental_text}
use Rattle.nextest_tree.specs.View.{tree_view}
use Rattle.rinqebo_forms.specs.declared.features.TheConstants.{FEATURES}
use Rattle.rinqebo_forms.specs.Features.{AreAdded, SwitchesOn}
use Rattle.rinqebo_forms.proofs.features.add_features.Given as goal

-- of the features so far those that are switched on are there
abbrev pub invariant-loop-feature : goal.invariant-loop-feature
invariant-loop-feature l =
    AreAdded (λ f. SwitchesOn (tree_view l.written) (experimental_text f)) (take l.feature-index FEATURES)
    l.fn.features l.features
