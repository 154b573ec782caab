-- What a configuration has at the name of a profile, by the nodes of its trees.
use Rattle.std.proofs.Common.{◌≡◌, ◌≢◌, ◌∙◌, List, Option, None, Some, option_map, option_and_then, unwrap_or, refl, sym, ap}
use Rattle.nextest_engines.specs.Readings.{Readings}
use Rattle.nextest_inheritance.specs.Names.{default_name}
use Rattle.nextest_inheritance.specs.Parents.{WrittenParents, parents_in}
use Rattle.nextest_rules.specs.Definitions.{Features}
use Rattle.nextest_rules.specs.Rules.{LayerProfile, layer_profile, at_name}
use Rattle.nextest_rules.proofs.AtName.{at_mapped, at_each}
use Rattle.nextest_sources.specs.Inputs.{LoadInputs, SourceText, sources_in}
use Rattle.nextest_sources.specs.Sources.{Source}
use Rattle.nextest_tables.specs.FileTexts.{profile_text, file_text}
use Rattle.nextest_tables.specs.Texts.{at_key, entries_at}
use Rattle.nextest_tables.specs.Written.{Name}
use Rattle.nextest_tree.specs.declared.key.Key.TheVariants as keys
use Rattle.nextest_tree.specs.Node.{Node, table, array, text, int, bool, opaque, no_entries, get, as_table, member_of}
use Rattle.nextest_load.specs.Accepted.{IsAccepted}
use Rattle.nextest_load.specs.Agreement.{node_of_profile}
use Rattle.nextest_load.specs.Config.{MergedProfile, merged_profile, config_of, config_parents}
use Rattle.nextest_load.specs.Loading.{source_layer}
use Rattle.nextest_load.specs.Trees.{own_tree, merged_tree}
use Rattle.nextest_load.proofs.Merging.{parents_of}
use Rattle.nextest_load.proofs.Wholes.{merged_at}

members : (name : Name) (o : Option Node)
    → get name (unwrap_or (option_and_then as_table o) no_entries) ≡ option_and_then (member_of name) o
members name None = refl
members name (Some (table es)) = refl
members name (Some (array ns)) = refl
members name (Some (text t)) = refl
members name (Some (int z)) = refl
members name (Some (bool b)) = refl
members name (Some opaque) = refl

-- the profile of a name in a file
pub profile_in_file : (name : Name) (tree : Node)
    → at_name name (file_text tree).profiles ≡ option_map profile_text (node_of_profile name tree)
profile_in_file name tree =
    at_each profile_text name (entries_at keys.Profile tree)
    ∙ ap (option_map profile_text) (members name (at_key keys.Profile tree))

-- what a layer has of a profile, by its node
abbrev pub layer_node : {M K P : Type 0} → Readings M K P → Source → Name → Option Node → Option (LayerProfile M K)
layer_node engines source name o = option_map (layer_profile engines source name) (option_map profile_text o)

pub profile_in_layer : {M K P : Type 0} (engines : Readings M K P) (name : Name) (s : SourceText)
    → at_name name (source_layer engines s).profiles
    ≡ layer_node engines s.source name (node_of_profile name (own_tree s))
profile_in_layer engines name s =
    at_mapped (layer_profile engines s.source) name (file_text (own_tree s)).profiles
    ∙ ap (option_map (layer_profile engines s.source name)) (profile_in_file name (own_tree s))

-- what the merged tree has of a profile, by its node
abbrev pub merged_node : Option Node → Option MergedProfile
merged_node o = option_map merged_profile (option_map profile_text o)

pub profile_in_config : {M K P : Type 0} (engines : Readings M K P) (name : Name) (ss : List SourceText)
    → at_name name (config_of engines ss).profiles ≡ merged_node (node_of_profile name (merged_tree ss))
profile_in_config engines name ss =
    merged_at name (file_text (merged_tree ss)).profiles
    ∙ ap (option_map merged_profile) (profile_in_file name (merged_tree ss))

-- the parent that the merged tree writes, by its node
abbrev pub parent_node : Option Node → Option Name
parent_node o = unwrap_or (option_map (λ (p : MergedProfile). p.parent) (merged_node o)) None

pub parent_in_config : {M K P : Type 0} (engines : Readings M K P) (name : Name) (ss : List SourceText)
    → parents_in (config_parents (config_of engines ss)) name ≡ parent_node (node_of_profile name (merged_tree ss))
parent_in_config engines name ss =
    ap (λ o. unwrap_or o None)
    (at_mapped (λ (n : Name) (p : MergedProfile). p.parent) name (config_of engines ss).profiles
    ∙ ap (option_map (λ (p : MergedProfile). p.parent)) (profile_in_config engines name ss))

-- `default` has no parent in accepted files
pub default_ends : {M K P : Type 0} (engines : Readings M K P) (features : Features) (files : LoadInputs)
    → IsAccepted engines features files
    → parents_in (config_parents (config_of engines (sources_in files))) default_name ≡ None
default_ends engines features files accepted =
    ap (λ (written : WrittenParents). parents_in written default_name)
    (parents_of (file_text (merged_tree (sources_in files))).profiles)
    ∙ accepted.merged_parents.bases default_name refl

-- so a profile with a parent is another one
pub not_default : {M K P : Type 0} (engines : Readings M K P) (features : Features) (files : LoadInputs)
    → IsAccepted engines features files → (name parent : Name)
    → parents_in (config_parents (config_of engines (sources_in files))) name ≡ Some parent → name ≢ default_name
not_default engines features files accepted name parent has is =
    let bad : None ≡ Some parent =
    sym (default_ends engines features files accepted)
    ∙ ap (parents_in (config_parents (config_of engines (sources_in files)))) (sym is) ∙ has in cc
