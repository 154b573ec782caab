-- The steps from a value to its graph.
use Rattle.std.proofs.Common.{◌≡◌, ℕ, List, Ok, Err, codes, refl}
use Rattle.serde_json.specs.Data.{Data}
use Rattle.filter_inputs.specs.declared.packages.fault.MetadataFault.{MetadataFault}
use Rattle.filter_inputs.specs.declared.packages.fault.MetadataPlace.TheVariants.{Packages}
use Rattle.filter_inputs.specs.Packages.Metadata.{list_under, package_ids, package_names, members_of, graph_of}

-- a fault of the members is that of the value, where the packages have none
pub members_fault : (metadata : Data) (packages : List Data) (ids names : List (List ℕ)) (e : MetadataFault)
    → list_under (codes "packages") Packages metadata ≡ Ok packages → package_ids packages ≡ Ok ids
    → package_names packages ≡ Ok names → members_of ids metadata ≡ Err e → graph_of metadata ≡ Err e
unfolding graph_of
members_fault metadata packages ids names e p i n h = rw (p, i, n, h) refl
