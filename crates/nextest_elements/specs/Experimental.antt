-- Features of a configuration that have to be switched on.
use Rattle.std.specs.Prelude.{ℕ, List, codes}
use Rattle.nextest_elements.specs.declared.experimental.ConfigExperimental.{ConfigExperimental}
use Rattle.nextest_elements.specs.declared.experimental.ConfigExperimental.TheVariants as features

-- the name of a feature
abbrev pub experimental_text : ConfigExperimental → List ℕ
experimental_text features.SetupScripts = codes "setup-scripts"
experimental_text features.WrapperScripts = codes "wrapper-scripts"
