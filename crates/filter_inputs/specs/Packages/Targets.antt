-- The targets of a workspace's packages, in the JSON of `cargo metadata`, or the first fault; and
-- the ids of the binaries that nextest builds from targets.
use Rattle.std.specs.Prelude.{◌++◌, ◌||◌, ℕ, Bool, false, List, [], codes, flat_map, Option, Result, Ok, if◌then◌else◌, option_and_then, option_map, slice_get, unwrap_or}
use Rattle.std.specs.List.{list_any}
use Rattle.std.specs.Option.{ok_or}
use Rattle.std.specs.Str.{bytes_eq}
use Rattle.serde_json.specs.Data.{Data}
use Rattle.serde_json.specs.Find.{as_str}
use Rattle.serde_json.specs.Read.{read}
use Rattle.filter_inputs.specs.declared.fields.kind.Wanted.TheVariants as wants
use Rattle.filter_inputs.specs.Packages.Metadata.{list_under, text_of, text_under}
use Rattle.filter_inputs.specs.declared.packages.fault.MetadataFault.{MetadataFault}
use Rattle.filter_inputs.specs.declared.packages.fault.MetadataFault.TheVariants.{NotJson, Expected}
use Rattle.filter_inputs.specs.declared.packages.fault.MetadataPlace.{MetadataPlace}
use Rattle.filter_inputs.specs.declared.packages.fault.MetadataPlace.TheVariants.{Packages, PackageId, PackageName, Targets, TargetName, TargetKinds, TargetKind, WorkspaceMembers, WorkspaceMember}
use Rattle.filter_inputs.specs.Packages.Results.{and_then, each}

-- A target of a package: the id and the name of the package, the kind of the target as nextest names
-- it, and the name of the target.
pub record TargetText : Type 0 where
  pub package_id : List ℕ
  pub package_name : List ℕ
  pub kind : List ℕ
  pub name : List ℕ

-- ---- kinds

-- whether a kind is one of the kinds of libraries that are linked
abbrev pub is_library_kind : List ℕ → Bool
is_library_kind kind =
    bytes_eq kind (codes "lib") || (bytes_eq kind (codes "rlib")
    || (bytes_eq kind (codes "dylib") || (bytes_eq kind (codes "cdylib")
    || bytes_eq kind (codes "staticlib"))))

-- whether a value is the kind of a library that is linked
abbrev pub is_library : Data → Bool
is_library value = unwrap_or (option_map is_library_kind (as_str value)) false

-- the kind of a target that Cargo lists with some kinds: a library that is linked is of kind `lib`,
-- and another target is of the first kind
abbrev pub kind_in : MetadataPlace → List Data → Result (List ℕ) MetadataFault
kind_in place kinds =
    if list_any is_library kinds then Ok (codes "lib")
    else ok_or (option_and_then as_str (slice_get kinds 0)) (Expected wants.Text place)

-- ---- targets

-- a target of a package with this id and name
abbrev pub target_at : List ℕ → List ℕ → ℕ → ℕ → Data → Result TargetText MetadataFault
target_at id package_name place target value =
    and_then (text_under (codes "name") (TargetName place target) value) (λ name.
    and_then (list_under (codes "kind") (TargetKinds place target) value) (λ kinds.
    and_then (kind_in (TargetKind place target) kinds) (λ kind.
    Ok (record { package_id = id; package_name = package_name; kind = kind; name = name }))))

-- the targets of a member of the workspace with this id
abbrev pub member_targets : List ℕ → ℕ → Data → Result (List TargetText) MetadataFault
member_targets id place value =
    and_then (text_under (codes "name") (PackageName place) value) (λ package_name.
    and_then (list_under (codes "targets") (Targets place) value)
    (each (target_at id package_name place)))

-- the targets of a package, if its id is that of a member of the workspace; else there are none
abbrev pub targets_at : List (List ℕ) → ℕ → Data → Result (List TargetText) MetadataFault
targets_at members place value =
    and_then (text_under (codes "id") (PackageId place) value) (λ id.
    if list_any (λ member. bytes_eq member id) members then member_targets id place value
    else Ok [])

-- the ids of the members of the workspace
abbrev pub member_ids : Data → Result (List (List ℕ)) MetadataFault
member_ids metadata =
    and_then (list_under (codes "workspace_members") WorkspaceMembers metadata)
    (each (λ place. text_of (WorkspaceMember place)))

-- the targets of some packages, of which these are members
abbrev pub all_targets : List (List ℕ) → List Data → Result (List TargetText) MetadataFault
all_targets members packages =
    and_then (each (targets_at members) packages) (λ lists. Ok (flat_map (λ targets. targets) lists))

-- the targets of the workspace's members in a JSON value, in the order of the packages
unfoldable pub targets_of : Data → Result (List TargetText) MetadataFault
targets_of metadata =
    and_then (member_ids metadata) (λ members.
    and_then (list_under (codes "packages") Packages metadata) (all_targets members))

-- the targets of the workspace's members in a JSON text
abbrev pub targets_of_text : List ℕ → Result (List TargetText) MetadataFault
targets_of_text text = and_then (ok_or (read text) NotJson) targets_of

-- ---- binaries

-- whether a target of a kind is the library of its package, which has one at most
abbrev pub is_of_package : List ℕ → Bool
is_of_package kind = bytes_eq kind (codes "lib") || bytes_eq kind (codes "proc-macro")

-- The id of the binary that nextest builds from a target: `p` from the library of a package, `p::x`
-- from an integration test, and else the kind with a slash is before the name, as `p::bin/x`.
abbrev pub binary_id : TargetText → List ℕ
binary_id target =
    if is_of_package target.kind then target.package_name
    else (if bytes_eq target.kind (codes "test")
    then target.package_name ++ (codes "::" ++ target.name)
    else target.package_name ++ (codes "::" ++ (target.kind ++ (codes "/" ++ target.name))))
