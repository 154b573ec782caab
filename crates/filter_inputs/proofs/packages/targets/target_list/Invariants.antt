use Rattle.std.proofs.Common.{map}
use Rattle.serde_json.specs.View.{view}
use Rattle.filter_inputs.specs.Packages.Targets.{target_at}
use Rattle.filter_inputs.specs.Packages.TargetView.{targets_view}
use Rattle.filter_inputs.proofs.packages.Gathering.{Gave}
use Rattle.filter_inputs.proofs.packages.targets.target_list.Given as goal

abbrev pub invariant-loop-place : goal.invariant-loop-place
invariant-loop-place l = Gave (target_at l.member.id.now l.member.name.now l.member.place) (map view l.values)
    l.place (targets_view l.targets.items)
