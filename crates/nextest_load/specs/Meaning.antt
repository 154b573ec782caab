-- A configuration by what the engines mean, in place of the expressions that code holds.
use Rattle.std.specs.Prelude.{map}
use Rattle.nextest_rules.specs.Meaning.{layer_meaning}
use Rattle.nextest_load.specs.Config.{ConfigModel}
use Rattle.nextest_load.specs.Load.{Loaded}

-- a configuration
abbrev pub config_meaning : {E N M K : Type 0} → (E → M) → (N → K) → ConfigModel E N
    → ConfigModel M K
config_meaning f g c = record {
  store_dir = c.store_dir;
  profiles = c.profiles;
  groups = c.groups;
  layers = map (layer_meaning f g) c.layers;
  match_all = f c.match_all;
}

-- what was loaded
abbrev pub loaded_meaning : {E N M K : Type 0} → (E → M) → (N → K) → Loaded E N → Loaded M K
loaded_meaning f g l = record { config = config_meaning f g l.config; scripts = l.scripts }
