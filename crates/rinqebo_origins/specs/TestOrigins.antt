-- Where the settings of a test come from, as a report shows it.
use Rattle.std.specs.Prelude.{◌≡◌, ℕ, List, [], ◌∷◌, Option, None, Some, option_map}
use Rattle.std.specs.List.{AllZip}
use Rattle.nextest_rules.specs.Rules.{RuleId}
use Rattle.nextest_settings.specs.Deciding.{QueryContext}
use Rattle.nextest_settings.specs.Profile.{EvaluatableModel}
use Rattle.nextest_settings.specs.Queries.{Origin as Decider, unwritten, by_profile, by_override, by_script, wrapping_rule}
use Rattle.nextest_settings.specs.SettingsView.{wrapping_use_at}
use Rattle.nextest_settings.specs.declared.test_settings.TestSettings.{TestSettings}
use Rattle.nextest_tables.specs.Written.{Name}
use Rattle.rinqebo_request.specs.declared.files.layers.Layer.{Layer}
use Rattle.rinqebo_report.specs.declared.origin.Origin.{Origin}
use Rattle.rinqebo_report.specs.declared.origin.Origin.TheVariants as kinds
use Rattle.rinqebo_origins.specs.Origins.{IsOriginOf, key_steps}
use Rattle.rinqebo_origins.specs.ProfileOrigins.{AreProfileOrigins}
use Rattle.rinqebo_origins.specs.RulePlaces.{Place, id_place, script_place}

-- what origins are looked up in: the layers of the files, and the chain of a profile
pub record Basis : Type 0 where
  pub layers : List Layer
  pub chain : List Name

-- the id of the script rule that wraps the run of a test, if one does: it is the first one of a
-- profile that holds and names a run wrapper
abbrev pub wrapping_id : {M : Type 0} → QueryContext M → EvaluatableModel M → Option RuleId
wrapping_id query profile = option_map (λ r. r.writes.id) (wrapping_rule query profile.script_rules)

-- the id of the script rule that gives a test its run wrapper, if one does, by the test's settings
abbrev pub wrapping_at : {F S Src E T N P : Type 0} → TestSettings F S Src E T N P → Option RuleId
wrapping_at settings = option_map (λ uses. uses.id) (wrapping_use_at settings)

-- the place of a script rule, if there is one
abbrev pub wrapping_places : Option RuleId → List Place
wrapping_places None = []
wrapping_places (Some id) = script_place id ∷ []

-- Origins are those of a value at a key, by what decides it: the chain of profiles, a rule by the
-- place of the key in it, or nothing that is written. The script rule that decides is the one that
-- wraps the run.
abbrev pub AreOriginsBy : Basis → Option RuleId → Option (List ℕ) → List ℕ → Option Decider
    → List Origin → Type 0
AreOriginsBy basis wrapping table name None origins = origins ≡ []
AreOriginsBy basis wrapping table name (Some unwritten) origins = origins ≡ kinds.BuiltIn ∷ []
AreOriginsBy basis wrapping table name (Some by_profile) origins =
    AreProfileOrigins basis.layers basis.chain table name origins
AreOriginsBy basis wrapping table name (Some (by_override id)) origins =
    AllZip (λ place. IsOriginOf basis.layers place (key_steps table name)) (id_place id ∷ [])
    origins
AreOriginsBy basis wrapping table name (Some by_script) origins =
    AllZip (λ place. IsOriginOf basis.layers place (key_steps table name))
    (wrapping_places wrapping) origins
