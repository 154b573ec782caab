-- What contracts see of a configuration: what it gives to profiles, and what was loaded.
use Rattle.std.specs.Prelude.{ℕ, List}
use Rattle.nextest_load.specs.Config.{ConfigModel, ScriptTables}
use Rattle.nextest_load.specs.Load.{Loaded}
use Rattle.nextest_load.specs.Meaning.{loaded_meaning}
use Rattle.nextest_settings.specs.Profile.{Configured}
use Rattle.nextest_sources.specs.Warnings.{Warning}

-- A configuration: the workspace's root, what was loaded, its scripts, and the warnings that were
-- kept of the load.
pub record KeptConfig (M K : Type 0) : Type 0 where
  pub root : List ℕ
  pub config : ConfigModel M K
  pub scripts : ScriptTables
  pub warnings : List Warning

-- a configuration without its warnings, as profiles have it
abbrev pub configured_in : {M K : Type 0} → KeptConfig M K → Configured M K
configured_in c = record { root = c.root; config = c.config; scripts = c.scripts }

-- what was loaded in a configuration
abbrev pub loaded_in : {M K : Type 0} → KeptConfig M K → Loaded M K
loaded_in c = record { config = c.config; scripts = c.scripts }

-- what was loaded in a configuration, by what the engines mean
abbrev pub loaded_by : {E N M K : Type 0} → (E → M) → (N → K) → KeptConfig E N → Loaded M K
loaded_by f g c = loaded_meaning f g (loaded_in c)
