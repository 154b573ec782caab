-- The graph in the JSON of `cargo metadata`, or the first fault.
use Rattle.std.specs.Prelude.{ℕ, List, position, codes, flat_map, Result, Ok}
use Rattle.std.specs.Option.{ok_or}
use Rattle.std.specs.Str.{bytes_eq}
use Rattle.serde_json.specs.Data.{Data}
use Rattle.serde_json.specs.Find.{as_str}
use Rattle.serde_json.specs.Read.{read}
use Rattle.filter_inputs.specs.Fields.Parts.{a_list, an_object, under}
use Rattle.filter_inputs.specs.declared.fields.kind.Wanted.TheVariants as wants
use Rattle.filter_inputs.specs.declared.packages.edges.Edge.{Edge}
use Rattle.filter_inputs.specs.declared.packages.fault.MetadataFault.{MetadataFault}
use Rattle.filter_inputs.specs.declared.packages.fault.MetadataFault.TheVariants.{NotJson, Expected, UnknownPackage}
use Rattle.filter_inputs.specs.declared.packages.fault.MetadataPlace.{MetadataPlace}
use Rattle.filter_inputs.specs.declared.packages.fault.MetadataPlace.TheVariants.{Packages, PackageId, PackageName, WorkspaceMembers, WorkspaceMember, Resolve, Nodes, NodeId, Dependencies, Dependency}
use Rattle.filter_inputs.specs.Packages.Graph.{Graph}
use Rattle.filter_inputs.specs.Packages.Results.{and_then, each}

-- ---- parts of a value

-- the string that a value is
abbrev pub text_of : MetadataPlace → Data → Result (List ℕ) MetadataFault
text_of place value = ok_or (as_str value) (Expected wants.Text place)

-- the string at a key
abbrev pub text_under : List ℕ → MetadataPlace → Data → Result (List ℕ) MetadataFault
text_under key place value = ok_or (under as_str key value) (Expected wants.Text place)

-- the values of the array at a key
abbrev pub list_under : List ℕ → MetadataPlace → Data → Result (List Data) MetadataFault
list_under key place value = ok_or (under a_list key value) (Expected wants.List place)

-- the object at a key
abbrev pub object_under : List ℕ → MetadataPlace → Data → Result Data MetadataFault
object_under key place value = ok_or (under an_object key value) (Expected wants.Object place)

-- ---- packages

-- the ids of all packages
abbrev pub package_ids : List Data → Result (List (List ℕ)) MetadataFault
package_ids packages = each (λ place. text_under (codes "id") (PackageId place)) packages

-- the names of all packages
abbrev pub package_names : List Data → Result (List (List ℕ)) MetadataFault
package_names packages = each (λ place. text_under (codes "name") (PackageName place)) packages

-- the index of the first package that has an id
abbrev pub package_of : List (List ℕ) → MetadataPlace → List ℕ → Result ℕ MetadataFault
package_of ids place id = ok_or (position (λ other. bytes_eq other id) ids) (UnknownPackage place)

-- ---- members

-- a member of the workspace, by the index of its package
abbrev pub member_at : List (List ℕ) → ℕ → Data → Result ℕ MetadataFault
member_at ids place value =
    and_then (text_of (WorkspaceMember place) value) (package_of ids (WorkspaceMember place))

-- the members of the workspace
abbrev pub members_of : List (List ℕ) → Data → Result (List ℕ) MetadataFault
members_of ids metadata =
    and_then (list_under (codes "workspace_members") WorkspaceMembers metadata)
    (each (member_at ids))

-- ---- dependencies

-- a dependency of a package
abbrev pub edge_at : List (List ℕ) → ℕ → ℕ → ℕ → Data → Result Edge MetadataFault
edge_at ids node from place value =
    and_then (text_under (codes "pkg") (Dependency node place) value) (λ id.
    and_then (package_of ids (Dependency node place) id) (λ to.
    Ok (record { from = from; to = to })))

-- the dependencies that a node lists
abbrev pub node_at : List (List ℕ) → ℕ → Data → Result (List Edge) MetadataFault
node_at ids place value =
    and_then (text_under (codes "id") (NodeId place) value) (λ id.
    and_then (package_of ids (NodeId place) id) (λ from.
    and_then (list_under (codes "deps") (Dependencies place) value)
    (each (edge_at ids place from))))

-- the dependencies of all packages
abbrev pub edges_of : List (List ℕ) → Data → Result (List Edge) MetadataFault
edges_of ids metadata =
    and_then (object_under (codes "resolve") Resolve metadata) (λ resolve.
    and_then (list_under (codes "nodes") Nodes resolve) (λ nodes.
    and_then (each (node_at ids) nodes) (λ edges. Ok (flat_map (λ listed. listed) edges))))

-- ---- the graph

-- the graph in a JSON value
unfoldable pub graph_of : Data → Result Graph MetadataFault
graph_of metadata =
    and_then (list_under (codes "packages") Packages metadata) (λ packages.
    and_then (package_ids packages) (λ ids.
    and_then (package_names packages) (λ names.
    and_then (members_of ids metadata) (λ members.
    and_then (edges_of ids metadata) (λ edges.
    Ok (record { names = names; members = members; edges = edges }))))))

-- the graph in a JSON text
abbrev pub graph_of_text : List ℕ → Result Graph MetadataFault
graph_of_text text = and_then (ok_or (read text) NotJson) graph_of
