-- Which settings of tests are compared.
use Rattle.std.specs.Prelude.{◌≡◌, Bool, false, true}
use Rattle.nextest_elements.specs.Settings.{settings}
use Rattle.rinqebo_request.specs.declared.request.RequestedSettings.{RequestedSettings}
use Rattle.rinqebo_request.specs.declared.request.RequestedSettings.TheVariants as asks

-- whether settings are named, whatever decides them
abbrev pub are_named : RequestedSettings → Bool
are_named asks.Decided = false
are_named (asks.These runs named) = true

-- all settings are named, in order, and so is `runs`
abbrev pub AreAll : RequestedSettings → Type 0
AreAll asks.Decided = ⊥
AreAll (asks.These runs named) = (runs ≡ true) × (named.items ≡ settings)

-- whether `runs` is compared
abbrev pub compares_runs : RequestedSettings → Bool
compares_runs asks.Decided = true
compares_runs (asks.These runs named) = runs
