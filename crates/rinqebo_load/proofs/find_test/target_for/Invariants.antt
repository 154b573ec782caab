use Rattle.filter_inputs.specs.Packages.Targets.{binary_id}
use Rattle.filter_inputs.specs.Packages.TargetView.{targets_view}
use Rattle.rinqebo_keys.proofs.KeyLists.{NoneHas}
use Rattle.rinqebo_load.proofs.find_test.target_for.Given as goal

-- no target so far builds the binary
abbrev pub invariant-loop-target : goal.invariant-loop-target
invariant-loop-target l = NoneHas binary_id (targets_view l.targets) l.id l.target-index
