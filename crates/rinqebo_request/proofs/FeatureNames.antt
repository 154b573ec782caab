-- Where features are among all.
use Rattle.std.proofs.Common.{◌≡◌, ◌<◌, ℕ, Contains, Some, refl, rules}
use Rattle.std.specs.List.{slice_get}
use Rattle.nextest_elements.specs.declared.experimental.ConfigExperimental.{ConfigExperimental}
use Rattle.nextest_elements.specs.declared.experimental.ConfigExperimental.TheVariants.{SetupScripts, WrapperScripts}
use Rattle.rinqebo_request.specs.declared.features.TheConstants.{FEATURES}

-- where a feature is among all
abbrev pub place : ConfigExperimental → ℕ
place SetupScripts = 0
place WrapperScripts = 1

pub within : (feature : ConfigExperimental) → place feature < 2
within SetupScripts = search rules
within WrapperScripts = search rules

pub at_place : (feature : ConfigExperimental) → slice_get FEATURES (place feature) ≡ Some feature
at_place SetupScripts = refl
at_place WrapperScripts = refl

pub contained : (feature : ConfigExperimental) → Contains FEATURES feature
contained SetupScripts = (0, search rules, refl)
contained WrapperScripts = (1, search rules, refl)
