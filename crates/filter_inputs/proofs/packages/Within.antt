-- The places in a graph that was read are places of packages.
use Rattle.std.proofs.Common.{◌≡◌, ℕ, suc, ◌<◌, Bool, true, false, cond, nat_lt, List, [], ◌∷◌, length, map, flat_map, Some, None, Result, Ok, Err, All, refl, sym, ap, ◌∙◌, subst, arith, codes}
use Rattle.std.proofs.lemmas.Bool.{ltb-true}
use Rattle.std.proofs.lemmas.List.Elements.{All-nil, All-cons, All-head, All-tail, All-append}
use Rattle.std.proofs.lemmas.List.FromFn.{length-enumerate_from}
use Rattle.std.specs.List.{enumerate_from, position_or_len}
use Rattle.std.specs.Option.{ok_or}
use Rattle.std.specs.Str.{bytes_eq}
use Rattle.serde_json.specs.Data.{Data}
use Rattle.filter_inputs.specs.declared.packages.edges.Edge.{Edge}
use Rattle.filter_inputs.specs.declared.packages.fault.MetadataPlace.{MetadataPlace}
use Rattle.filter_inputs.specs.Packages.Marks.{IsBelow}
use Rattle.filter_inputs.specs.declared.packages.fault.MetadataFault.{MetadataFault}
use Rattle.filter_inputs.specs.declared.packages.fault.MetadataPlace.TheVariants.{WorkspaceMembers, WorkspaceMember, Resolve, Nodes, NodeId, Dependencies, Dependency}
use Rattle.filter_inputs.specs.Packages.Metadata.{list_under, object_under, text_of, text_under, package_of, member_at, members_of, edge_at, node_at, edges_of}
use Rattle.filter_inputs.specs.Packages.Results.{and_then, gathered, each}

-- a value of two results in a row is one of the first and then of the second
then_value : {A B E : Type 0} (r : Result A E) (f : A → Result B E) (b : B) → and_then r f ≡ Ok b
    → (a : A) × (r ≡ Ok a) × (f a ≡ Ok b)
then_value (Ok a) f b h = (a, refl, h)
then_value (Err e) f b h = absurd (err_ok h)
  where
    err_ok : Err e ≡ Ok b → ⊥
    err_ok h = cc

ok_same : {A E : Type 0} {a b : A} → ◌≡◌ {A = Result A E} (Ok a) (Ok b) → a ≡ b
ok_same h = cc

gathered-all : {B C E : Type 0} (P : B → Type 0) (g : C → Result B E) → ((x : C) (b : B) → g x ≡ Ok b → P b)
    → (xs : List C) (ys : List B) → gathered (map g xs) ≡ Ok ys → All P ys
unfolding gathered
gathered-all P g holds [] ys h = subst (All P) (ok_same h) (All-nil P)
gathered-all P g holds (x ∷ xs) ys h =
    let first = then_value (g x) _ ys h in
    let rest = then_value (gathered (map g xs)) _ ys first.2 in
    subst (All P) (ok_same rest.2)
    (All-cons P first.0 rest.0 (holds x first.0 first.1) (gathered-all P g holds xs rest.0 rest.1))

gathered-length : {B C E : Type 0} (g : C → Result B E) (xs : List C) (ys : List B)
    → gathered (map g xs) ≡ Ok ys → length ys ≡ length xs
unfolding gathered
gathered-length g [] ys h = ap length (sym (ok_same h))
gathered-length g (x ∷ xs) ys h =
    let first = then_value (g x) _ ys h in
    let rest = then_value (gathered (map g xs)) _ ys first.2 in
    ap length (sym (ok_same rest.2)) ∙ ap suc (gathered-length g xs rest.0 rest.1)

-- each element gives one value
pub length-each : {A B E : Type 0} (f : ℕ → A → Result B E) (xs : List A) (ys : List B) → each f xs ≡ Ok ys
    → length ys ≡ length xs
length-each f xs ys h = gathered-length (λ p. f p.0 p.1) (enumerate_from 0 xs) ys h ∙ length-enumerate_from 0 xs

each-all : {A B E : Type 0} (P : B → Type 0) (f : ℕ → A → Result B E)
    → ((n : ℕ) (x : A) (b : B) → f n x ≡ Ok b → P b) → (xs : List A) (ys : List B) → each f xs ≡ Ok ys → All P ys
each-all P f holds xs ys h = gathered-all P (λ p. f p.0 p.1) (λ p b e. holds p.0 p.1 b e) (enumerate_from 0 xs) ys h

-- ---- packages

found_below : {E : Type 0} (b : Bool) (n m p : ℕ) (e : E) → nat_lt n m ≡ b
    → ok_or (cond b (Some n) None) e ≡ Ok p → p < m
found_below {E} true n m p e t h = let same : n ≡ p = ok_same h in let below = ltb-true n m t in
    omega (arith, same, below)
found_below {E} false n m p e t h = absurd (err_ok h)
  where
    err_ok : ◌≡◌ {A = Result ℕ E} (Err e) (Ok p) → ⊥
    err_ok h = cc

package_below : (ids : List (List ℕ)) (place : MetadataPlace) (id : List ℕ) (p : ℕ) → package_of ids place id ≡ Ok p
    → p < length ids
package_below ids place id p h =
    found_below (nat_lt (position_or_len (λ other. bytes_eq other id) ids) (length ids))
    (position_or_len (λ other. bytes_eq other id) ids) (length ids) p _ refl h

-- ---- members and edges

member_below : (ids : List (List ℕ)) (n : ℕ) (value : Data) (p : ℕ) → member_at ids n value ≡ Ok p → p < length ids
member_below ids n value p h =
    let text = then_value (text_of (WorkspaceMember n) value) (package_of ids (WorkspaceMember n)) p h in
    package_below ids (WorkspaceMember n) text.0 p text.2

pub members_below : (ids : List (List ℕ)) (metadata : Data) (members : List ℕ)
    → members_of ids metadata ≡ Ok members → All (λ place. place < length ids) members
members_below ids metadata members h =
    let listed = then_value (list_under (codes "workspace_members") WorkspaceMembers metadata)
    (each (member_at ids)) members h in
    each-all (λ place. place < length ids) (member_at ids) (member_below ids) listed.0 members listed.2

abbrev edge_to : ℕ → ℕ → Result Edge MetadataFault
edge_to from to = Ok (record { from = from; to = to })

edge_below : (ids : List (List ℕ)) (node from n : ℕ) (value : Data) (edge : Edge) → from < length ids
    → edge_at ids node from n value ≡ Ok edge → IsBelow (length ids) edge
edge_below ids node from n value edge below h =
    let place = Dependency node n in
    let text = then_value (text_under (codes "pkg") place value)
    (λ id. and_then (package_of ids place id) (edge_to from)) edge h in
    let to = then_value (package_of ids place text.0) (edge_to from) edge text.2 in
    subst (IsBelow (length ids)) (ok_same to.2) (below, package_below ids place text.0 to.0 to.1)

-- the dependencies of the package at `from`
abbrev listed_from : List (List ℕ) → ℕ → Data → ℕ → Result (List Edge) MetadataFault
listed_from ids n value from = and_then (list_under (codes "deps") (Dependencies n) value) (each (edge_at ids n from))

node_below : (ids : List (List ℕ)) (n : ℕ) (value : Data) (edges : List Edge) → node_at ids n value ≡ Ok edges
    → All (IsBelow (length ids)) edges
node_below ids n value edges h =
    let text = then_value (text_under (codes "id") (NodeId n) value)
    (λ id. and_then (package_of ids (NodeId n) id) (listed_from ids n value)) edges h in
    let from = then_value (package_of ids (NodeId n) text.0) (listed_from ids n value) edges text.2 in
    let listed = then_value (list_under (codes "deps") (Dependencies n) value) (each (edge_at ids n from.0))
    edges from.2 in
    let below = package_below ids (NodeId n) text.0 from.0 from.1 in
    each-all (IsBelow (length ids)) (edge_at ids n from.0)
    (λ k x edge e. edge_below ids n from.0 k x edge below e) listed.0 edges listed.2

all_joined : {A : Type 0} (P : A → Type 0) (lists : List (List A)) → All (All P) lists
    → All P (flat_map (λ list. list) lists)
all_joined P [] h = All-nil P
all_joined P (list ∷ lists) h =
    All-append P list (flat_map (λ list. list) lists) (All-head (All P) list lists h)
    (all_joined P lists (All-tail (All P) list lists h))

abbrev joined : List (List Edge) → Result (List Edge) MetadataFault
joined lists = Ok (flat_map (λ edges. edges) lists)

abbrev nodes_in : List (List ℕ) → List Data → Result (List Edge) MetadataFault
nodes_in ids nodes = and_then (each (node_at ids) nodes) joined

abbrev resolved_in : List (List ℕ) → Data → Result (List Edge) MetadataFault
resolved_in ids resolve = and_then (list_under (codes "nodes") Nodes resolve) (nodes_in ids)

pub edges_below : (ids : List (List ℕ)) (metadata : Data) (edges : List Edge)
    → edges_of ids metadata ≡ Ok edges → All (IsBelow (length ids)) edges
edges_below ids metadata edges h =
    let resolve = then_value (object_under (codes "resolve") Resolve metadata) (resolved_in ids) edges h in
    let nodes = then_value (list_under (codes "nodes") Nodes resolve.0) (nodes_in ids) edges resolve.2 in
    let lists = then_value (each (node_at ids) nodes.0) joined edges nodes.2 in
    subst (All (IsBelow (length ids))) (ok_same lists.2)
    (all_joined (IsBelow (length ids)) lists.0
    (each-all (All (IsBelow (length ids))) (node_at ids) (node_below ids) nodes.0 lists.0 lists.1))
