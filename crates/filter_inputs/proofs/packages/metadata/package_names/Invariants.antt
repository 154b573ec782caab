use Rattle.std.proofs.Common.{codes, map}
use Rattle.serde_json.specs.View.{view}
use Rattle.filter_inputs.specs.declared.packages.fault.MetadataPlace.TheVariants.{PackageName}
use Rattle.filter_inputs.specs.Packages.Metadata.{text_under}
use Rattle.filter_inputs.specs.Packages.Names.{names_view}
use Rattle.filter_inputs.proofs.packages.Gathering.{Gave}
use Rattle.filter_inputs.proofs.packages.metadata.package_names.Given as goal

abbrev pub invariant-loop-place : goal.invariant-loop-place
invariant-loop-place l = Gave (λ place. text_under (codes "name") (PackageName place)) (map view l.packages)
    l.place (names_view l.names.items)
