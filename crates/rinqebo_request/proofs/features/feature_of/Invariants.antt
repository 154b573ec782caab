use Rattle.nextest_elements.specs.Experimental.{experimental_text}
use Rattle.rinqebo_keys.proofs.KeyLists.{NoneHas}
use Rattle.rinqebo_request.specs.declared.features.TheConstants.{FEATURES}
use Rattle.rinqebo_request.proofs.features.feature_of.Given as goal

-- no feature so far has the name
abbrev pub invariant-loop-feature : goal.invariant-loop-feature
invariant-loop-feature l = NoneHas experimental_text FEATURES l.name l.feature-index
