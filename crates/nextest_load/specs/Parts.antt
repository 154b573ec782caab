-- The parts of a configuration, before it is known to be closed.
use Rattle.std.specs.Prelude.{◌≡◌, List, map, reverse}
use Rattle.nextest_engines.specs.Readings.{Readings}
use Rattle.nextest_rules.specs.Meaning.{layer_meaning}
use Rattle.nextest_rules.specs.View.{layer_view}
use Rattle.nextest_rules.specs.declared.overrides.LayerRules.{LayerRules}
use Rattle.nextest_sources.specs.Inputs.{SourceText}
use Rattle.nextest_tables.specs.Complete.{IsMergedTree}
use Rattle.nextest_load.specs.Closed.{HasDefaults}
use Rattle.nextest_load.specs.Config.{ConfigModel}
use Rattle.nextest_load.specs.ConfigView.{scripts_view}
use Rattle.nextest_load.specs.Loading.{source_layer}
use Rattle.nextest_load.specs.Merged.{tables_view, tables_of}
use Rattle.nextest_load.specs.Scripts.{AreScriptsOf}
use Rattle.nextest_load.specs.Trees.{tree_in, merged_tree, merged_file}
use Rattle.nextest_load.specs.declared.merged.MergedTables.{MergedTables}
use Rattle.nextest_load.specs.declared.load.ConfigParts.{ConfigParts}

-- What was kept is what the merged tree of sources says.
pub record AreTablesOf (ss : List SourceText) (tables : MergedTables) : Type 0 where
  pub means : tables_view tables ≡ tables_of (merged_file ss)
  pub scripts : AreScriptsOf ss (scripts_view tables.scripts)
  -- the profile `default` is complete, where each source has no fault over the defaults
  pub defaults : IsMergedTree (map tree_in ss) (merged_tree ss)
      → HasDefaults (tables_view tables).profiles

-- Parts are those of sources: what their merged tree says, and their rules, the highest first.
pub record AreParts {F S E T N Q M K P : Type 0} (meaning : E → M) (spec_meaning : N → K)
    (engines : Readings M K P) (ss : List SourceText) (parts : ConfigParts F S E T N Q)
    : Type 0 where
  pub tables : AreTablesOf ss parts.tables
  pub layers : map (λ l. layer_meaning meaning spec_meaning (layer_view l)) parts.layers.items
      ≡ reverse (map (source_layer engines) ss)

-- the configuration of tables, layers and the filter that matches everything
abbrev pub config_parts : {F S E T N Q : Type 0} → MergedTables → List (LayerRules F S E T N Q) → E
    → ConfigModel E N
config_parts tables layers match_all = record {
  store_dir = (tables_view tables).store_dir;
  profiles = (tables_view tables).profiles;
  groups = (tables_view tables).groups;
  layers = map layer_view layers;
  match_all = match_all;
}
