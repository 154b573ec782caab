use Rattle.std.proofs.Common.{◌≡◌, List, map, flat_map}
use Rattle.serde_json.specs.View.{view}
use Rattle.filter_inputs.specs.Packages.Names.{ids_view}
use Rattle.filter_inputs.specs.Packages.Targets.{TargetText, targets_at}
use Rattle.filter_inputs.specs.Packages.TargetView.{targets_view}
use Rattle.filter_inputs.proofs.packages.Gathering.{Gave}
use Rattle.filter_inputs.proofs.packages.targets.all_targets.Given as goal

abbrev pub invariant-loop-place : goal.invariant-loop-place
invariant-loop-place l =
    (done : List (List TargetText)) × (targets_view l.targets.items ≡ flat_map (λ targets. targets) done)
    × Gave (targets_at (ids_view l.members)) (map view l.packages) l.place done
