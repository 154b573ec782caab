-- A profile gives tests groups of the configuration, where its overrides write no others.
use Rattle.std.proofs.Common.{List, [], ◌∷◌, Bool, true, false, cond, find, Option, None, Some, IfSome, option_and_then}
use Rattle.std.specs.Option.{option_or}
use Rattle.nextest_elements.specs.declared.run_mode.NextestRunMode.{NextestRunMode}
use Rattle.nextest_elements.specs.declared.test_group.TestGroup.{TestGroup}
use Rattle.nextest_elements.specs.declared.test_group.TestGroup.TheVariants.{Global}
use Rattle.nextest_engines.specs.declared.queries.BuildPlatforms.{BuildPlatforms}
use Rattle.nextest_inheritance.specs.Parents.{with_default}
use Rattle.nextest_load.specs.Closed.{EachOverride}
use Rattle.nextest_rules.specs.Accepted.{IsAmong}
use Rattle.nextest_rules.specs.Rules.{OverrideUse}
use Rattle.nextest_settings.specs.Chains.{overrides_of}
use Rattle.nextest_settings.specs.Deciding.{QueryContext, decides}
use Rattle.nextest_settings.specs.Platforms.{EvaluatedRule, rule_on}
use Rattle.nextest_settings.specs.Profile.{Configured, EvaluatableModel, profile_of, profile_on}
use Rattle.nextest_settings.specs.Queries.{deciding_override, setting_value}
use Rattle.nextest_settings.specs.Settings.{is_set}
use Rattle.nextest_elements.specs.declared.setting.Setting.TheVariants as at
use Rattle.nextest_sources.specs.InputFaults.{Each}
use Rattle.nextest_tables.specs.FileTexts.{names_in}
use Rattle.nextest_tables.specs.Written.{Name}
use Rattle.nextest_settings.proofs.profiles.EachRule.{each_image, each_gathered}

-- what holds of each element holds of the one that is found
each_found : {X : Type 0} (P : X → Type 0) (passes : X → Bool) (xs : List X) → Each P xs → IfSome (find passes xs) P
each_found P passes [] h = tt
each_found P passes (x ∷ xs) h =
    elim (passes x) as (λ b. IfSome (cond b (Some x) (find passes xs)) P)
    [ true ↦ h.0 | false ↦ each_found P passes xs h.1 ]

module _ (names : List Name) where
  or_global : (o : Option TestGroup) → IsAmong names o → IsAmong names (option_or o (Some Global))
  or_global None h = tt
  or_global (Some group) h = h

  -- an override writes a group that is among names, if it writes one
  abbrev WritesKnown : {M : Type 0} → EvaluatedRule M (OverrideUse M) → Type 0
  WritesKnown r = IsAmong names r.writes.settings.test_group

  of_override : {M : Type 0} (o : Option (EvaluatedRule M (OverrideUse M))) → IfSome o WritesKnown
      → IsAmong names (option_or (option_and_then (λ r. r.writes.settings.test_group) o) (Some Global))
  of_override None h = tt
  of_override (Some r) h = or_global r.writes.settings.test_group h

module _ {M K P : Type 0} (meets : K → P → Option Bool) (platforms : BuildPlatforms P)
    (configured : Configured M K) (name : Name) (chain : List Name)
    (groups : EachOverride (λ r. IsAmong (names_in configured.config.groups) r.writes.settings.test_group)
    configured.config) where
  abbrev profile : EvaluatableModel M
  profile = profile_on meets platforms (profile_of configured name chain)

  known : Each (WritesKnown (names_in configured.config.groups)) profile.overrides
  known =
      each_image (WritesKnown (names_in configured.config.groups)) (rule_on meets platforms)
      (overrides_of configured.config.layers (with_default chain))
      (each_gathered (λ r. IsAmong (names_in configured.config.groups) r.writes.settings.test_group)
      (λ p. p.overrides) configured.config.layers (with_default chain) groups)

  pub group_known : (query : QueryContext M) (mode : NextestRunMode)
      → IsAmong (names_in configured.config.groups) (setting_value query mode profile at.TestGroup)
  group_known query mode =
      of_override (names_in configured.config.groups) (deciding_override query mode profile.overrides at.TestGroup)
      (each_found (WritesKnown (names_in configured.config.groups))
      (decides query (λ w. is_set w.settings mode at.TestGroup)) profile.overrides known)
