-- What contracts see of a target.
use Rattle.std.specs.Prelude.{List, map, string_bytes}
use Rattle.filter_inputs.specs.Packages.Targets.{TargetText}
use Rattle.filter_inputs.specs.declared.packages.targets.PackageTarget.{PackageTarget}

-- a target
abbrev pub target_view : PackageTarget → TargetText
target_view target = record {
  package_id = string_bytes target.package_id;
  package_name = string_bytes target.package_name;
  kind = string_bytes target.kind;
  name = string_bytes target.name;
}

-- some targets
abbrev pub targets_view : List PackageTarget → List TargetText
targets_view targets = map target_view targets
