-- Whether the program looked up the filters that a run evaluates: whether it knows the packages
-- that they are about.
use Rattle.std.specs.Prelude.{◌≡◌, [], ◌∷◌, true, List, map, None, codes, string_bytes}
use Rattle.filter_engine.specs.Engine.{Filter}
use Rattle.filter_language.specs.Asks.{asks}
use Rattle.nextest_inheritance.specs.Parents.{parents_in}
use Rattle.nextest_load.specs.Config.{ScriptTables, config_parents}
use Rattle.nextest_load.specs.Scripts.{AreScriptsOf}
use Rattle.nextest_settings.specs.Profiles.Profiles.{IsChainAndDefault}
use Rattle.nextest_settings.specs.Profile.{EvaluatableModel}
use Rattle.nextest_sources.specs.Inputs.{sources_in}
use Rattle.nextest_tables.specs.Written.{Name}
use Rattle.rinqebo_checks.specs.Failures.{IsFailureAbout}
use Rattle.rinqebo_load.specs.Sessions.{files_view, readings}
use Rattle.rinqebo_load.specs.declared.failure.Failure.{Failure}
use Rattle.rinqebo_load.specs.declared.failure.Failure.TheVariants as failures
use Rattle.rinqebo_load.specs.declared.fault.InputFault.{InputFault}
use Rattle.rinqebo_load.specs.declared.fault.InputFault.TheVariants as faults
use Rattle.rinqebo_load.specs.declared.fault.OpenFilter.{OpenFilter}
use Rattle.rinqebo_load.specs.declared.session.Session.{Session}
use Rattle.rinqebo_request.specs.declared.request.Question.{Question}
use Rattle.rinqebo_request.specs.declared.request.Question.TheVariants as questions
use Rattle.rinqebo_rules.specs.EvaluatedFilters.{Site, open_filters}
use Rattle.rinqebo_results.specs.Listed.{IsProfileOn}
use Rattle.rinqebo_results.specs.ReportsReasons.{configured_by}

-- The filters that a profile evaluates and that were not looked up are these, on the platforms of a
-- session and by what its files mean.
pub record LeavesOpen (session : Session) (name : Name) (left : List (Site × Filter)) : Type 0 where
  pub scripts : ScriptTables
  pub are_scripts : AreScriptsOf (sources_in (files_view session.gathered.now)) scripts
  pub profile : EvaluatableModel Filter
  pub is_profile : IsProfileOn (readings session.engines.filters).meets session.engines.platforms
      (configured_by session scripts) name profile
  pub are_open : open_filters session.engines.filters.packages profile ≡ left

-- Each filter that a profile evaluates was looked up.
abbrev pub IsLookedUp : Session → Name → Type 0
IsLookedUp session name = LeavesOpen session name []

-- A filter in a failure is the first one that a profile evaluates and that was not looked up, and
-- uses the set in the failure.
pub record IsFirstOpen (session : Session) (name : Name) (told : OpenFilter) : Type 0 where
  pub first : Site × Filter
  pub others : List (Site × Filter)
  pub are_open : LeavesOpen session name (first ∷ others)
  pub set : asks told.set first.1 ≡ true

-- a failure says that metadata are needed for a filter, and for a set that it uses
abbrev pub IsFailureFor : Failure → Filter → Type 0
IsFailureFor (failures.Engines (faults.NoMetadata told)) filter = asks told.set filter ≡ true
IsFailureFor _ filter = ⊥

-- a fault says that metadata are needed
abbrev pub NeedsMetadata : Session → Name → InputFault → Type 0
NeedsMetadata session name (faults.NoMetadata told) = IsFirstOpen session name told
NeedsMetadata session name fault = ⊥

-- A session has no result for which it evaluates the filters of a profile: metadata are needed only
-- where some filter that it evaluates was not looked up, or a result about the profile fails.
abbrev pub IsFailureOn : Session → Name → Failure → Type 0
IsFailureOn session name (failures.Engines fault) = NeedsMetadata session name fault
IsFailureOn session name failure = IsFailureAbout session name failure

-- The program looked up each filter that it evaluates for a request. For `show-config` and `check`
-- it evaluates none.
abbrev pub AreLookedUp : Session → Question → Type 0
AreLookedUp session (questions.Explain profile test asked) = IsLookedUp session profile.now
AreLookedUp session (questions.Why profile test setting) = IsLookedUp session profile.now
AreLookedUp session (questions.WhyRuns profile test) = IsLookedUp session profile.now
AreLookedUp session (questions.List profile mode list asked) = IsLookedUp session profile.now
AreLookedUp session (questions.ShowConfig profile keys with_hidden) = Unit {0}
AreLookedUp session (questions.Check deny_warnings) = Unit {0}
