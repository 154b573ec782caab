use Rattle.std.proofs.Common.{codes, map}
use Rattle.serde_json.specs.View.{view}
use Rattle.filter_inputs.specs.declared.packages.fault.MetadataPlace.TheVariants.{PackageId}
use Rattle.filter_inputs.specs.Packages.Metadata.{text_under}
use Rattle.filter_inputs.specs.Packages.Names.{ids_view}
use Rattle.filter_inputs.proofs.packages.Gathering.{Gave}
use Rattle.filter_inputs.proofs.packages.metadata.package_ids.Given as goal

abbrev pub invariant-loop-place : goal.invariant-loop-place
invariant-loop-place l = Gave (λ place. text_under (codes "id") (PackageId place)) (map view l.packages)
    l.place (ids_view l.ids.items)
