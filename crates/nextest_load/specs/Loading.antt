-- What contracts see of a load that goes on: a source with its text, and what was loaded so far.
use Rattle.std.specs.Prelude.{◌≡◌, List, [], ◌∷◌, map, Option, Some, None, IfSome, option_map}
use Rattle.nextest_engines.specs.Readings.{Readings}
use Rattle.nextest_rules.specs.Known.{known_names, sets_of}
use Rattle.nextest_rules.specs.KnownView.{known_view}
use Rattle.nextest_rules.specs.Meaning.{layer_meaning}
use Rattle.nextest_rules.specs.Rules.{Layer, layer_of}
use Rattle.nextest_rules.specs.View.{layer_view}
use Rattle.nextest_sources.specs.Inputs.{SourceText}
use Rattle.nextest_sources.specs.Sources.{source_view}
use Rattle.nextest_tables.specs.Defaults.{defaults}
use Rattle.nextest_tree.specs.Node.{Node}
use Rattle.nextest_tree.specs.View.{tree_view}
use Rattle.nextest_load.specs.Kept.{IsKept}
use Rattle.nextest_load.specs.ScriptNames.{AreScriptNames}
use Rattle.nextest_load.specs.Trees.{own_file, merged_tree}
use Rattle.nextest_load.specs.declared.load.LoadedLayers.{LoadedLayers}
use Rattle.nextest_load.specs.declared.source.SourceFile.{SourceFile}

-- a source with its text
abbrev pub source_text_view : SourceFile → SourceText
source_text_view f = record { source = source_view f.source.now; text = f.text.now }

-- the layer of a source
abbrev pub source_layer : {M K P : Type 0} → Readings M K P → SourceText → Layer M K
source_layer engines s = layer_of engines s.source (own_file s).profiles

-- the tree of sources laid over one another, none where there is no source
abbrev pub tree_so_far : List SourceText → Option Node
tree_so_far [] = None
tree_so_far (s ∷ ss) = Some (merged_tree (s ∷ ss))

-- Sources were loaded, the lowest first: the names that they define are known, a tree of the
-- defaults is theirs alone, they are laid over one another, their rules are compiled, and the order
-- of their scripts is known.
pub record HasLoaded {F S E T N Q M K P : Type 0} (meaning : E → M) (spec_meaning : N → K)
    (engines : Readings M K P) (ss : List SourceText) (loaded : LoadedLayers F S E T N Q)
    : Type 0 where
  pub known : known_view loaded.known ≡ sets_of (known_names (map own_file ss))
  pub defaults : IfSome loaded.defaults (λ tree. tree_view tree ≡ defaults)
  pub merged : option_map tree_view loaded.merged ≡ tree_so_far ss
  -- what is kept of their tree, if it is
  pub kept : IfSome loaded.kept (IsKept (merged_tree ss))
  pub layers : map (λ l. layer_meaning meaning spec_meaning (layer_view l)) loaded.layers.items
      ≡ map (source_layer engines) ss
  pub names : AreScriptNames ss loaded.names
