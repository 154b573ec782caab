-- The profiles of a configuration, before and after the platforms of a build are known.
use Rattle.std.specs.Prelude.{ℕ, List, map, Bool, Option, option_map, option_and_then}
use Rattle.nextest_elements.specs.declared.test_group.TestGroupConfig.{TestGroupConfig}
use Rattle.nextest_engines.specs.declared.queries.BuildPlatforms.{BuildPlatforms}
use Rattle.nextest_inheritance.specs.Parents.{with_default}
use Rattle.nextest_load.specs.Config.{ConfigModel, ScriptTables}
use Rattle.nextest_rules.specs.Rules.{Compiled, OverrideUse, ScriptRuleUse, at_name}
use Rattle.nextest_scripts.specs.Paths.{joined_path}
use Rattle.nextest_tables.specs.Written.{Name, WrittenFields}
use Rattle.nextest_settings.specs.Chains.{overrides_of, script_rules_of, fields_of, FilterChoice, nearest_filter, match_all_filter}
use Rattle.nextest_settings.specs.Platforms.{EvaluatedRule, rule_on, default_filter_of}

-- A configuration as its calls have it: the workspace's root, what was loaded, and its scripts.
pub record Configured (M K : Type 0) : Type 0 where
  pub root : List ℕ
  pub config : ConfigModel M K
  pub scripts : ScriptTables

-- what a profile says whatever the platforms: its name, parent, directory, groups and scripts, and
-- what the profiles of its chain write, the nearest first
pub record ProfileFacts : Type 0 where
  pub name : Name
  pub parent : Option Name
  pub store_dir : Option (List ℕ)
  pub groups : List (Name × Option TestGroupConfig)
  pub scripts : ScriptTables
  pub fields : List WrittenFields

-- A profile: its facts, the rules of its chain in order, and the default filter of the nearest
-- profile that has one.
pub record EarlyModel (M K : Type 0) : Type 0 where
  pub facts : ProfileFacts
  pub overrides : List (Compiled M K (OverrideUse M))
  pub script_rules : List (Compiled M K ScriptRuleUse)
  pub nearest_filter : Option (FilterChoice M)
  pub match_all : M

-- the directory in which a profile stores: the root, then the store's, then the profile's name
abbrev pub store_dir_of : List ℕ → Option (List ℕ) → Name → Option (List ℕ)
store_dir_of root dir name = option_map (λ d. joined_path (joined_path root d) name) dir

-- what a profile of this chain says whatever the platforms
abbrev pub facts_of : {M K : Type 0} → Configured M K → Name → List Name → ProfileFacts
facts_of configured name chain = record {
  name = name;
  parent = option_and_then (λ p. p.parent) (at_name name configured.config.profiles);
  store_dir = store_dir_of configured.root configured.config.store_dir name;
  groups = configured.config.groups;
  scripts = configured.scripts;
  fields = fields_of configured.config.profiles (with_default chain);
}

-- the profile of this name and chain
abbrev pub profile_of : {M K : Type 0} → Configured M K → Name → List Name → EarlyModel M K
profile_of configured name chain = record {
  facts = facts_of configured name chain;
  overrides = overrides_of configured.config.layers (with_default chain);
  script_rules = script_rules_of configured.config.layers (with_default chain);
  nearest_filter = nearest_filter configured.config.layers (with_default chain);
  match_all = configured.config.match_all;
}

-- A profile on the platforms of a build: its facts, its rules, and the default filter that
-- counts.
pub record EvaluatableModel (M : Type 0) : Type 0 where
  pub facts : ProfileFacts
  pub overrides : List (EvaluatedRule M (OverrideUse M))
  pub script_rules : List (EvaluatedRule M ScriptRuleUse)
  pub default_filter : FilterChoice M

-- a profile on the platforms of a build
abbrev pub profile_on : {M K P : Type 0} → (K → P → Option Bool) → BuildPlatforms P
    → EarlyModel M K → EvaluatableModel M
profile_on meets platforms p =
    let overrides = map (rule_on meets platforms) p.overrides in
    record {
      facts = p.facts;
      overrides = overrides;
      script_rules = map (rule_on meets platforms) p.script_rules;
      default_filter =
          default_filter_of overrides p.nearest_filter (match_all_filter p.match_all);
    }
