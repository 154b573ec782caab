-- What a list of tests has to have at which paths, and the faults of lists that don't.
use Rattle.std.specs.Prelude.{ℕ, List, [], ◌∷◌, ◌++◌, Option, None, Some, is_some, option_map, option_and_then, unwrap_or, codes, flat_map, if◌then◌else◌}
use Rattle.std.specs.List.{slice_get}
use Rattle.std.specs.Option.{option_or}
use Rattle.std.specs.Str.{bytes_eq}
use Rattle.nextest_engines.specs.declared.queries.BuildPlatform.{BuildPlatform}
use Rattle.nextest_engines.specs.declared.queries.BuildPlatform.TheVariants.{Host, Target}
use Rattle.serde_json.specs.Data.{Data, null, string, Members, no_members, member}
use Rattle.serde_json.specs.Find.{get, as_object}
use Rattle.filter_inputs.specs.Fields.Parts.{a_list, fits, kind_of, under}
use Rattle.filter_inputs.specs.declared.fields.kind.Kind.{Kind}
use Rattle.filter_inputs.specs.declared.fields.kind.Wanted.{Wanted}
use Rattle.filter_inputs.specs.declared.fields.kind.Wanted.TheVariants as kinds
use Rattle.filter_inputs.specs.declared.lists.place.Place.{Place}
use Rattle.filter_inputs.specs.declared.lists.place.Place.TheVariants as places

-- the value that is wanted at a path: one of a type, or the name of a platform
pub data Expected : Type 0 where
  of_kind : Wanted → Expected
  a_platform : Expected

-- A demand: a path, the value at it, if there is one, and the value that is wanted.
pub record Demand : Type 0 where
  pub place : List ℕ
  pub found : Option Data
  pub expected : Expected

-- A fault of a text: it isn't JSON, or the value at a path is missing, isn't of the type that is
-- wanted, or doesn't name a platform.
pub data Fault : Type 0 where
  not_json : Fault
  misfit : (place : List ℕ) → (expected : Wanted) → (given : Option Kind) → Fault
  unknown_platform : (place given : List ℕ) → Fault

-- the platform of a name
abbrev pub platform_of : List ℕ → Option BuildPlatform
platform_of name =
    if bytes_eq name (codes "host") then Some Host
    else (if bytes_eq name (codes "target") then Some Target else None)

-- the fault of a value that has to be of a type
abbrev pub kind_fault : List ℕ → Wanted → Option Data → Option Fault
kind_fault place kind found =
    if fits kind found then None else Some (misfit place kind (option_map kind_of found))

-- the fault of a string that has to name a platform
abbrev pub name_fault : List ℕ → List ℕ → Option Fault
name_fault place name =
    if is_some (platform_of name) then None else Some (unknown_platform place name)

-- the fault of a value that has to be the name of a platform
abbrev pub platform_fault : List ℕ → Option Data → Option Fault
platform_fault place (Some (string name)) = name_fault place name
platform_fault place found = kind_fault place kinds.Text found

-- the fault of the value at a path
abbrev pub fault_at : List ℕ → Option Data → Expected → Option Fault
fault_at place found (of_kind kind) = kind_fault place kind found
fault_at place found a_platform = platform_fault place found

-- the fault of a demand, if it isn't met
abbrev pub fault_of : Demand → Option Fault
fault_of demand = fault_at demand.place demand.found demand.expected

-- the fault of the first demand that isn't met
abbrev pub first_fault : List Demand → Option Fault
first_fault [] = None
first_fault (demand ∷ demands) = option_or (fault_of demand) (first_fault demands)

-- the path of the suite with an id
abbrev pub suite_place : List ℕ → List ℕ
suite_place id = codes "rust-suites." ++ id

-- the path of the value at a key of the suite with an id
abbrev pub member_place : List ℕ → List ℕ → List ℕ
member_place id key = suite_place id ++ codes "." ++ key

-- a path as text: its keys, with dots between them
abbrev pub place_text : Place → List ℕ
place_text (places.Platforms keys) = codes "rust-build-meta.platforms." ++ keys.now
place_text places.Suites = codes "rust-suites"
place_text (places.Suite id) = suite_place id.now
place_text (places.Member id key) = member_place id.now key.now

-- ---- the platforms of the build

-- a value that isn't `null`
abbrev pub if_given : Data → Option Data
if_given null = None
if_given d = Some d

-- the platforms of the build, if a list has them
abbrev pub platforms_in : Data → Option Data
platforms_in document =
    option_and_then (λ meta. option_and_then if_given (get (codes "platforms") meta))
    (get (codes "rust-build-meta") document)

-- the triple of a platform
abbrev pub triple_in : Option Data → Option Data
triple_in found = option_and_then (get (codes "triple"))
    (option_and_then (get (codes "platform")) found)

-- the first target, if the targets are an array that has one
abbrev pub first_target : Data → Option Data
first_target platforms =
    option_and_then (λ targets. slice_get targets 0) (under a_list (codes "targets") platforms)

-- a value of a type is demanded at a path below the platforms of the build
abbrev pub platforms_demand : List ℕ → Option Data → Wanted → Demand
platforms_demand keys found kind = record {
  place = codes "rust-build-meta.platforms." ++ keys;
  found = found;
  expected = of_kind kind;
}

-- the triple of a target is a string
abbrev pub target_demands : Data → List Demand
target_demands target = platforms_demand (codes "targets.0.platform.triple")
    (triple_in (Some target)) kinds.Text ∷ []

-- the first target has a triple, if there is a target
abbrev pub first_target_demands : Option Data → List Demand
first_target_demands found = unwrap_or (option_map target_demands found) []

-- the host has a triple, the targets are an array, and the first one has a triple, if there is one
abbrev pub platforms_demands : Data → List Demand
platforms_demands platforms =
    platforms_demand (codes "host.platform.triple") (triple_in (get (codes "host") platforms))
    kinds.Text
    ∷ platforms_demand (codes "targets") (get (codes "targets") platforms) kinds.List
    ∷ first_target_demands (first_target platforms)

-- what is demanded of the platforms of the build: nothing, if a list has none
abbrev pub build_demands : Data → List Demand
build_demands document = unwrap_or (option_map platforms_demands (platforms_in document)) []

-- ---- suites

-- the members of an object, each with its key
abbrev pub listed : Members → List (List ℕ × Data)
listed no_members = []
listed (member key value members) = (key, value) ∷ listed members

-- the members of an object that may be absent
abbrev pub members_in : Option Data → List (List ℕ × Data)
members_in found = unwrap_or (option_map listed (option_and_then as_object found)) []

-- a value is demanded at a key of a suite
abbrev pub member_demand : List ℕ → Data → List ℕ → Expected → Demand
member_demand id suite key expected =
    record { place = member_place id key; found = get key suite; expected = expected }

-- a suite is an object, and has the names and ids of its package and its binary, the kind of its
-- target, a platform, and its tests
abbrev pub suite_demands : List ℕ × Data → List Demand
suite_demands (id, suite) =
    record { place = suite_place id; found = Some suite; expected = of_kind kinds.Object }
    ∷ member_demand id suite (codes "package-name") (of_kind kinds.Text)
    ∷ member_demand id suite (codes "package-id") (of_kind kinds.Text)
    ∷ member_demand id suite (codes "binary-id") (of_kind kinds.Text)
    ∷ member_demand id suite (codes "binary-name") (of_kind kinds.Text)
    ∷ member_demand id suite (codes "kind") (of_kind kinds.Text)
    ∷ member_demand id suite (codes "build-platform") a_platform
    ∷ member_demand id suite (codes "testcases") (of_kind kinds.Object)
    ∷ []

-- the suites are an object, and each of them is what a suite has to be
abbrev pub suites_demands : Option Data → List Demand
suites_demands found =
    record { place = codes "rust-suites"; found = found; expected = of_kind kinds.Object }
    ∷ flat_map suite_demands (members_in found)

-- What is demanded of a list of tests, in order: first of the platforms of the build, then of the
-- suites.
abbrev pub demands : Data → List Demand
demands document = build_demands document ++ suites_demands (get (codes "rust-suites") document)
