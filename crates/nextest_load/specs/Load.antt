-- What a load promises.
use Rattle.std.specs.Prelude.{◌≡◌, ◌⊎◌, List, Result, MatchResult, IfOk}
use Rattle.nextest_engines.specs.Readings.{Readings}
use Rattle.nextest_rules.specs.Definitions.{Features}
use Rattle.nextest_sources.specs.Causes.{LoadFault}
use Rattle.nextest_sources.specs.Endings.{Ran, refused, ending, IsMemory}
use Rattle.nextest_sources.specs.Inputs.{LoadInputs, sources_in}
use Rattle.nextest_sources.specs.Warnings.{Warning}
use Rattle.nextest_sources.specs.declared.error.ConfigParseError.{ConfigParseError}
use Rattle.nextest_load.specs.Accepted.{IsAccepted}
use Rattle.nextest_load.specs.Closed.{IsClosed}
use Rattle.nextest_load.specs.Config.{ConfigModel, ScriptTables, config_of}
use Rattle.nextest_load.specs.Exact.{IsExact}
use Rattle.nextest_load.specs.Scripts.{AreScriptsOf}
use Rattle.nextest_load.specs.Steps.{load_steps}

-- what was loaded: a configuration, and its scripts
pub record Loaded (M K : Type 0) : Type 0 where
  pub config : ConfigModel M K
  pub scripts : ScriptTables

-- The result of a load of files, where `loaded` is what was loaded in the result, by what the
-- engines mean, and the warnings before and after it.
pub record IsLoad {T M K P : Type 0} (loaded : T → Loaded M K) (engines : Readings M K P)
    (features : Features) (files : LoadInputs) (old new : List Warning)
    (r : Result T ConfigParseError) : Type 0 where
  -- a configuration exactly if every rule holds, unless memory runs out
  pub verdict : MatchResult r (λ _. IsAccepted engines features files)
      (λ e. IsMemory e ⊎ (¬ IsAccepted engines features files))
  -- else the first fault, with its source and all it carries; and the warnings before it are
  -- reported
  pub ran : Ran (load_steps engines features files) old new (ending r)
  -- an element that is refused is the least fault, and refused parents name exactly the cycles
  pub exact : (fault : LoadFault) → ending r ≡ refused fault → IsExact files fault
  -- the configuration is what the texts mean
  pub means : IfOk r (λ c. (loaded c).config ≡ config_of engines (sources_in files))
  -- its scripts are those of the merged tree, in the order in which the files define them
  pub scripts : IfOk r (λ c. AreScriptsOf (sources_in files) (loaded c).scripts)
  -- and it is closed
  pub closed : IfOk r (λ c. IsClosed engines.matches_binary (loaded c).config (loaded c).scripts)
