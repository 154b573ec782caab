use Rattle.std.proofs.Common.{map}
use Rattle.serde_json.specs.View.{view}
use Rattle.filter_inputs.specs.declared.packages.fault.MetadataPlace.TheVariants.{WorkspaceMember}
use Rattle.filter_inputs.specs.Packages.Metadata.{text_of}
use Rattle.filter_inputs.specs.Packages.Names.{ids_view}
use Rattle.filter_inputs.proofs.packages.Gathering.{Gave}
use Rattle.filter_inputs.proofs.packages.targets.id_list.Given as goal

abbrev pub invariant-loop-place : goal.invariant-loop-place
invariant-loop-place l = Gave (λ place. text_of (WorkspaceMember place)) (map view l.values)
    l.place (ids_view l.ids.items)
