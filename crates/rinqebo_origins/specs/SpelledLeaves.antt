-- What files write at keys that are shown as they are written: the rules and the archive of a
-- profile, and beside the profiles features and the version of nextest.
use Rattle.std.specs.Prelude.{◌≡◌, ℕ, suc, List, [], ◌∷◌, ◌++◌, Bool, true, false, ◌&&◌, ◌==◌, Option, None, Some, option_map, option_and_then, map, filter, flat_map, slice_get, length, take, drop, codes, decimal, string_bytes, if◌then◌else◌}
use Rattle.std.specs.List.{AllZip, join_by, list_any}
use Rattle.std.specs.Str.{bytes_eq}
use Rattle.nextest_documents.specs.Writers.{countdown}
use Rattle.nextest_places.specs.declared.step.Step.{Step}
use Rattle.nextest_tables.specs.Written.{Name}
use Rattle.nextest_tree.specs.Node.{Node, table, array, Nodes, no_nodes, node, Entries, no_entries, entry, member_of}
use Rattle.nextest_tree.specs.View.{tree_view}
use Rattle.rinqebo_request.specs.Files.Layers.{layer_tree}
use Rattle.rinqebo_request.specs.Files.Origins.{IsPathPlace}
use Rattle.rinqebo_request.specs.declared.files.layers.Layer.{Layer}
use Rattle.rinqebo_report.specs.declared.origin.FilePlace.{FilePlace}
use Rattle.rinqebo_report.specs.declared.origin.Origin.{Origin}
use Rattle.rinqebo_report.specs.declared.origin.Origin.TheVariants as kinds
use Rattle.rinqebo_report.specs.declared.origin.Part.{Part}
use Rattle.rinqebo_report.specs.declared.origin.Part.TheVariants as parts
use Rattle.rinqebo_report.specs.declared.origin.Written.{Written}
use Rattle.rinqebo_report.specs.declared.report.Entry.{Entry}
use Rattle.rinqebo_origins.specs.LeafValue.{IsValueOf, are_texts, is_tellable}
use Rattle.rinqebo_origins.specs.Origins.{PathStep, key, position, step_view}
use Rattle.rinqebo_origins.specs.declared.spelled.SpelledLeaf.{SpelledLeaf}
use Rattle.rinqebo_origins.specs.declared.spelled.Spot.{Spot as HeldSpot}

-- where something is written as it is shown: under a profile, or without one beside the profiles,
-- at a key, in the layer at a position
pub record Spot : Type 0 where
  pub profile : Option Name
  pub key_is : List ℕ
  pub layer : ℕ

-- such a place as code holds it
abbrev pub spot_view : HeldSpot → Spot
spot_view spot = record {
  profile = option_map (λ name. name.now) spot.profile;
  key_is = spot.key.now;
  layer = spot.layer;
}

-- the places of a key in all layers, the highest first
abbrev pub spots_at : Option Name → List ℕ → ℕ → List Spot
spots_at profile name count =
    map (λ layer. record { profile = profile; key_is = name; layer = layer }) (countdown count)

-- the places under a profile
abbrev pub profile_spots : ℕ → Name → List Spot
profile_spots count name = spots_at (Some name) (codes "archive") count
    ++ (spots_at (Some name) (codes "overrides") count
    ++ spots_at (Some name) (codes "scripts") count)

-- the places beside the profiles
abbrev pub file_spots : ℕ → List Spot
file_spots count =
    spots_at None (codes "experimental") count ++ spots_at None (codes "nextest-version") count

-- all places: those under the profiles of a chain, the nearest first, and then those beside them
abbrev pub all_spots : ℕ → List Name → List Spot
all_spots count chain = flat_map (profile_spots count) chain ++ file_spots count

-- A leaf as a file spells it: where it is written, the steps to it there, and its value.
pub record Spelled : Type 0 where
  pub spot : Spot
  pub steps : List PathStep
  pub value : Node

-- such a leaf as code holds it
abbrev pub spelled_view : SpelledLeaf → Spelled
spelled_view leaf = record {
  spot = spot_view leaf.spot;
  steps = map step_view leaf.steps.items;
  value = tree_view leaf.value.now;
}

abbrev mutual
  -- the leaves of a node at some steps: those of a table are those of its members, and those of an
  -- array are those of its items, unless these are texts alone
  pub leaves_in : Spot → List PathStep → Node → List Spelled
  leaves_in spot steps (table es) = member_leaves spot steps es
  leaves_in spot steps (array ns) =
      if are_texts ns then record { spot = spot; steps = steps; value = array ns } ∷ []
      else item_leaves spot steps 0 ns
  leaves_in spot steps n = record { spot = spot; steps = steps; value = n } ∷ []

  pub member_leaves : Spot → List PathStep → Entries → List Spelled
  member_leaves spot steps no_entries = []
  member_leaves spot steps (entry k n es) =
      leaves_in spot (steps ++ key k ∷ []) n ++ member_leaves spot steps es

  pub item_leaves : Spot → List PathStep → ℕ → Nodes → List Spelled
  item_leaves spot steps at no_nodes = []
  item_leaves spot steps at (node n ns) =
      leaves_in spot (steps ++ position at ∷ []) n ++ item_leaves spot steps (suc at) ns

-- what a profile has at a key in a tree, or without one what is there beside the profiles
abbrev pub value_at : Option Name → List ℕ → Node → Option Node
value_at None name tree = member_of name tree
value_at (Some profile) name tree =
    option_and_then (member_of name)
    (option_and_then (member_of profile) (member_of (codes "profile") tree))

-- what is at a place in the layers
abbrev pub spot_node : List Layer → Spot → Option Node
spot_node layers spot =
    option_and_then (value_at spot.profile spot.key_is)
    (option_and_then layer_tree (slice_get layers spot.layer))

-- the leaves of what may be at a place
abbrev pub leaves_of : Spot → Option Node → List Spelled
leaves_of spot None = []
leaves_of spot (Some n) = leaves_in spot (key spot.key_is ∷ []) n

-- the leaves at a place
abbrev pub spot_leaves : List Layer → Spot → List Spelled
spot_leaves layers spot = leaves_of spot (spot_node layers spot)

-- all leaves of a chain that are shown as they are written
abbrev pub all_leaves : List Layer → List Name → List Spelled
all_leaves layers chain = flat_map (spot_leaves layers) (all_spots (length layers) chain)

-- a step, as a user spells it: positions count from 0
abbrev pub step_text : PathStep → List ℕ
step_text (key k) = k
step_text (position at) = decimal at

-- steps as a user spells them, with dots between them
abbrev pub steps_text : List PathStep → List ℕ
steps_text steps = join_by step_text (codes ".") steps

-- whether a text ends, or goes on with a dot
abbrev pub ends_or_dot : List ℕ → Bool
ends_or_dot [] = true
ends_or_dot (c ∷ rest) = c == 46

-- whether a text is a key, or goes on behind it with a dot
abbrev pub is_under : List ℕ → List ℕ → Bool
is_under text name =
    bytes_eq (take (length name) text) name && ends_or_dot (drop (length name) text)

-- whether some keys select a leaf, and a report can show its value
abbrev pub is_spelled_out : List (List ℕ) → Spelled → Bool
is_spelled_out keys leaf =
    list_any (λ name. is_under (steps_text leaf.steps) name) keys && is_tellable leaf.value

-- the rule at a position below a key of a profile, or its own fields where the key has no rules
abbrev pub rule_part : List ℕ → ℕ → Part
rule_part name at =
    if bytes_eq name (codes "overrides") then parts.Override at
    else if bytes_eq name (codes "scripts") then parts.Script at
    else parts.Fields

-- which part of a profile steps lead into: a rule, or its own fields
abbrev pub part_at : List PathStep → Part
part_at (key name ∷ position at ∷ steps) = rule_part name at
part_at steps = parts.Fields

-- the steps to the table of a profile, if there is one
abbrev pub base_steps : Option Name → List PathStep
base_steps None = []
base_steps (Some profile) = key (codes "profile") ∷ key profile ∷ []

-- An origin is that of what is written at a place: under a profile in a part of it, or beside the
-- profiles.
abbrev pub IsPlacedOrigin : Option Name → Part → FilePlace → Origin → Type 0
IsPlacedOrigin profile part place (kinds.Written written) =
    (profile ≡ Some (string_bytes written.profile)) × (written.part ≡ part)
    × (written.place ≡ place)
IsPlacedOrigin profile part place (kinds.File found) = (profile ≡ None) × (found ≡ place)
IsPlacedOrigin profile part place kinds.BuiltIn = ⊥
IsPlacedOrigin profile part place kinds.DefaultTable = ⊥

-- A place in a file is that of a leaf.
pub record IsPlaceOfLeaf (layers : List Layer) (leaf : Spelled) (place : FilePlace) : Type 0 where
  pub path : List Step
  pub spelled : map step_view path ≡ base_steps leaf.spot.profile ++ leaf.steps
  pub place_reported : IsPathPlace layers leaf.spot.layer path place

-- An origin is that of a leaf: under its profile, or beside the profiles.
abbrev pub IsOriginOfLeaf : List Layer → Spelled → Origin → Type 0
IsOriginOfLeaf layers leaf (kinds.Written written) =
    (leaf.spot.profile ≡ Some (string_bytes written.profile))
    × (written.part ≡ part_at leaf.steps) × IsPlaceOfLeaf layers leaf written.place
IsOriginOfLeaf layers leaf (kinds.File place) =
    (leaf.spot.profile ≡ None) × IsPlaceOfLeaf layers leaf place
IsOriginOfLeaf layers leaf kinds.BuiltIn = ⊥
IsOriginOfLeaf layers leaf kinds.DefaultTable = leaf.spot.layer ≡ 0

-- An entry shows a leaf as it is written: its key, its value, and where it is. It hides none, and
-- none hides it.
pub record IsEntryOfLeaf (layers : List Layer) (leaf : Spelled) (told : Entry) : Type 0 where
  pub key_told : string_bytes told.key ≡ steps_text leaf.steps
  pub value_told : IsValueOf leaf.value told.value
  pub origin_told : IsOriginOfLeaf layers leaf told.origin
  pub shown : told.is_hidden ≡ false

-- Entries show what the files write for a chain under some keys, each leaf once and in order.
abbrev pub AreSpelledOut : List Layer → List Name → List (List ℕ) → List Entry → Type 0
AreSpelledOut layers chain keys told =
    AllZip (IsEntryOfLeaf layers) (filter (is_spelled_out keys) (all_leaves layers chain)) told
