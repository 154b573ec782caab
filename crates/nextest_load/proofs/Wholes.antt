-- The parts of a configuration: its tree, and what is kept of it.
use Rattle.std.proofs.Common.{◌≡◌, List, [], ◌∷◌, ◌++◌, map, reverse, Bool, true, false, Option, None, Some, Result, Ok, Err, IfOk, option_map, if◌then◌else◌, refl, sym, ap, subst, ◌∙◌}
use Rattle.std.specs.BTreeMap.{is_at}
use Rattle.std.specs.Cmp.Lexicographic.{slice_cmp}
use Rattle.std.specs.List.{flat_map}
use Rattle.std.specs.Ordering.{nat_cmp}
use Rattle.nextest_engines.specs.Readings.{Readings}
use Rattle.nextest_inheritance.specs.Names.{default_name}
use Rattle.nextest_rules.specs.Definitions.{Features}
use Rattle.nextest_rules.specs.Meaning.{layer_meaning}
use Rattle.nextest_rules.specs.Rules.{Layer, at_name}
use Rattle.nextest_rules.specs.View.{layer_view}
use Rattle.nextest_rules.specs.declared.overrides.LayerRules.{LayerRules}
use Rattle.nextest_sources.specs.Endings.{Ending, Ran}
use Rattle.nextest_sources.specs.Inputs.{Input, SourceText, source_texts_of}
use Rattle.nextest_sources.specs.Sources.{Source}
use Rattle.nextest_sources.specs.Warnings.{Warning}
use Rattle.nextest_sources.specs.declared.error.ConfigParseError.{ConfigParseError}
use Rattle.nextest_sources.proofs.Lists.{map_reversed}
use Rattle.nextest_tables.specs.Complete.{HasCompleteDefault}
use Rattle.nextest_tables.specs.FileTexts.{ProfileText, FileText}
use Rattle.nextest_tables.specs.Written.{Name}
use Rattle.nextest_tree.specs.Node.{Node}
use Rattle.nextest_load.specs.Closed.{HasDefaults}
use Rattle.nextest_load.specs.Config as model
use Rattle.nextest_load.specs.Config.{merged_profile}
use Rattle.nextest_load.specs.Loading.{HasLoaded, source_layer, tree_so_far}
use Rattle.nextest_load.specs.Merged.{profiles_of}
use Rattle.nextest_load.specs.Parts.{AreParts, AreTablesOf}
use Rattle.nextest_load.specs.Steps.{input_steps, merged_steps}
use Rattle.nextest_load.specs.Trees.{merged_tree}
use Rattle.nextest_load.specs.declared.load.LoadedLayers.{LoadedLayers}
use Rattle.nextest_load.specs.declared.load.ConfigParts.{ConfigParts}

-- the tree of all sources is the one so far
pub whole_is : (ss : List SourceText) (n : Node) → Some n ≡ tree_so_far ss → n ≡ merged_tree ss
whole_is [] n h = cc
whole_is (s ∷ ss) n h = cc

-- with no source it is that of the defaults
pub whole_none : (ss : List SourceText) (n : Node) → None ≡ tree_so_far ss → n ≡ merged_tree [] → n ≡ merged_tree ss
whole_none [] n h is = is
whole_none (s ∷ ss) n h is = cc

found_at : (b : Bool) (p : ProfileText) (o : Option ProfileText) (q : Option model.MergedProfile)
    → q ≡ option_map merged_profile o
    → (if b then Some (merged_profile p) else q) ≡ option_map merged_profile (if b then Some p else o)
found_at true p o q h = refl
found_at false p o q h = h

-- a profile without its rules is at its name
pub merged_at : (name : Name) (ps : List (Name × ProfileText))
    → at_name name (profiles_of ps) ≡ option_map merged_profile (at_name name ps)
merged_at name [] = refl
merged_at name (p ∷ ps) =
    found_at (is_at (slice_cmp nat_cmp name) p.0) p.1 (at_name name ps) (at_name name (profiles_of ps))
    (merged_at name ps)

-- the profile `default` stays complete
pub has_defaults : (file : FileText) (profiles : List (Name × model.MergedProfile))
    → profiles ≡ profiles_of file.profiles → HasCompleteDefault file → HasDefaults profiles
has_defaults file profiles is h =
    let defaults : HasDefaults (profiles_of file.profiles) = record {
      profile = merged_profile h.profile;
      there = merged_at default_name file.profiles ∙ ap (option_map merged_profile) h.there;
      complete = h.complete;
    } in
    subst HasDefaults (sym is) defaults

-- layers that are turned round
pub layers_turned : {F S E T N Q M K : Type 0} (meaning : E → M) (spec_meaning : N → K)
    (lowest_first highest_first : List (LayerRules F S E T N Q)) (layers : List (Layer M K))
    → highest_first ≡ reverse lowest_first
    → map (λ l. layer_meaning meaning spec_meaning (layer_view l)) lowest_first ≡ layers
    → map (λ l. layer_meaning meaning spec_meaning (layer_view l)) highest_first ≡ reverse layers
layers_turned meaning spec_meaning xs ys layers turned is =
    rw turned (map_reversed (λ l. layer_meaning meaning spec_meaning (layer_view l)) xs ∙ ap reverse is)

-- the parts of sources that were loaded
pub parts_are : {F S E T N Q M K P : Type 0} (meaning : E → M) (spec_meaning : N → K)
    (engines : Readings M K P) (ss : List SourceText) (loaded : LoadedLayers F S E T N Q)
    (r : Result (ConfigParts F S E T N Q) ConfigParseError)
    → HasLoaded meaning spec_meaning engines ss loaded → IfOk r (λ parts. AreTablesOf ss parts.tables)
    → IfOk r (λ parts. parts.layers.items ≡ reverse loaded.layers.items)
    → IfOk r (AreParts meaning spec_meaning engines ss)
parts_are meaning spec_meaning engines ss loaded (Ok parts) has tables turned = record {
  tables = tables;
  layers = layers_turned meaning spec_meaning loaded.layers.items parts.layers.items
      (map (source_layer engines) ss) turned has.layers;
}
parts_are meaning spec_meaning engines ss loaded (Err e) has tables turned = tt

-- inputs and the repository's source that are those of files
pub steps_same : {M K P : Type 0} (engines : Readings M K P) (features : Features) (all inputs : List Input)
    (one source : Source) {old new : List Warning} {o : Ending} → all ≡ inputs → one ≡ source
    → Ran (input_steps engines features [] all ++ merged_steps one (flat_map source_texts_of all)) old new o
    → Ran (input_steps engines features [] inputs
    ++ merged_steps source (flat_map source_texts_of inputs)) old new o
steps_same engines features all inputs one source {old} {new} {o} is at ran =
    let first = subst (λ (i : List Input). Ran
    (input_steps engines features [] i ++ merged_steps one (flat_map source_texts_of i)) old new o) is ran in
    subst (λ (s : Source). Ran
    (input_steps engines features [] inputs ++ merged_steps s (flat_map source_texts_of inputs)) old new o) at first
