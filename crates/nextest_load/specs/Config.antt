-- What a configuration is, over what engines made of its texts.
use Rattle.std.specs.Prelude.{ℕ, List, map, reverse, Option}
use Rattle.nextest_elements.specs.declared.test_group.TestGroupConfig.{TestGroupConfig}
use Rattle.nextest_engines.specs.Readings.{Readings}
use Rattle.nextest_inheritance.specs.Parents.{WrittenParents}
use Rattle.nextest_rules.specs.Rules.{Layer, layer_of}
use Rattle.nextest_sources.specs.Inputs.{SourceText}
use Rattle.nextest_scripts.specs.ScriptTexts.{SetupScriptText, WrapperScriptText}
use Rattle.nextest_tables.specs.FileTexts.{ProfileText}
use Rattle.nextest_tables.specs.Written.{Name, WrittenFields}
use Rattle.nextest_load.specs.Trees.{own_file, merged_file}

-- a profile of the merged tree: the parent that it writes, and its fields
pub record MergedProfile : Type 0 where
  pub parent : Option Name
  pub fields : WrittenFields

-- A configuration: the directory of the store, the profiles and groups of the merged tree, the
-- layers from the highest down, and the filter that matches everything. M is what filters are, K
-- what platform specs are: expressions of engines, or what they mean.
pub record ConfigModel (M K : Type 0) : Type 0 where
  pub store_dir : Option (List ℕ)
  pub profiles : List (Name × MergedProfile)
  pub groups : List (Name × Option TestGroupConfig)
  pub layers : List (Layer M K)
  pub match_all : M

-- the scripts of a configuration, by id and in their order
pub record ScriptTables : Type 0 where
  pub setup : List (Name × SetupScriptText)
  pub wrapper : List (Name × WrapperScriptText)

-- a profile of the merged tree
abbrev pub merged_profile : ProfileText → MergedProfile
merged_profile p = record { parent = p.parent; fields = p.fields }

-- the configuration that sources mean, the lowest first
abbrev pub config_of : {M K P : Type 0} → Readings M K P → List SourceText → ConfigModel M K
config_of engines ss = record {
  store_dir = (merged_file ss).store_dir;
  profiles = map (λ p. (p.0, merged_profile p.1)) (merged_file ss).profiles;
  groups = (merged_file ss).groups;
  layers = reverse (map (λ s. layer_of engines s.source (own_file s).profiles) ss);
  match_all = engines.match_all;
}

-- the parents that the profiles of a configuration write
abbrev pub config_parents : {M K : Type 0} → ConfigModel M K → WrittenParents
config_parents config = map (λ p. (p.0, p.1.parent)) config.profiles
