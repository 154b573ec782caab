-- Why a test runs, and whether it does, that agree.
use Rattle.std.specs.Prelude.{◌≡◌, ◌∷◌, [], Bool, List, Contains, None, Some, codes, option_map}
use Rattle.nextest_inheritance.specs.Parents.{parents_in}
use Rattle.nextest_load.specs.Config.{config_parents}
use Rattle.nextest_settings.specs.Profiles.Profiles.{IsChainAndDefault}
use Rattle.nextest_tables.specs.Written.{Name}
use Rattle.rinqebo_request.specs.declared.files.layers.Layer.{Layer}
use Rattle.rinqebo_laws.specs.Reasons.{IsWithin, NoneDecides, origins_of}
use Rattle.rinqebo_laws.specs.Shown.{AreShownAlike}
use Rattle.rinqebo_load.specs.Meant.{config_meant}
use Rattle.rinqebo_load.specs.declared.session.Session.{Session}
use Rattle.rinqebo_report.specs.declared.origin.Origin.{Origin}
use Rattle.rinqebo_report.specs.declared.report.Rule.{Rule}
use Rattle.rinqebo_report.specs.declared.report.SettingRow.{SettingRow}
use Rattle.rinqebo_report.specs.declared.report.Verdict.TheVariants as verdicts
use Rattle.rinqebo_origins.specs.Origins.{key_steps}
use Rattle.rinqebo_origins.specs.ProfileOrigins.{AreProfileOrigins}
use Rattle.rinqebo_origins.specs.Reported.{boolean, scalar, value_view}
use Rattle.rinqebo_rules.specs.Runs.{runs_if}

-- A row says that a test runs exactly if a rule says that its default filter matches the test,
-- and no list marks the test as ignored.
pub record SaysByRule (is_ignored : Bool) (rule : Rule) (row : SettingRow) : Type 0 where
  pub matches : Bool
  pub rule_says : option_map value_view rule.value ≡ Some (scalar (boolean matches))
  pub row_says : option_map value_view row.value
      ≡ Some (scalar (boolean (runs_if matches is_ignored)))

-- A row comes from the default filter of the override that decides: it says whether that filter
-- matches, with one origin, the place of the filter in that override.
pub record IsByFilter (layers : List Layer) (is_ignored : Bool) (rule : Rule) (row : SettingRow)
    : Type 0 where
  pub says : SaysByRule is_ignored rule row
  pub origin : Origin
  pub alone : row.origins.items ≡ origin ∷ []
  pub within : IsWithin layers (key_steps None (codes "default-filter")) rule.origin origin

-- A row comes from the default filter of a chain of profiles, if no override decides: it says
-- whether that filter matches, with the origins of the filter, shown alike.
pub record IsByChain (is_ignored : Bool) (fallback : Rule) (row : SettingRow) : Type 0 where
  pub says : SaysByRule is_ignored fallback row
  pub origins : AreShownAlike (origins_of fallback) row.origins.items

-- Origins are those of the default filter of the chain of a profile.
pub record AreFilterOrigins (session : Session) (profile : Name) (origins : List Origin) : Type 0
  where
    pub chain : List Name
    pub is_chain : IsChainAndDefault (parents_in (config_parents (config_meant session))) profile
        chain
    pub are : AreProfileOrigins session.layers.items chain None (codes "default-filter") origins

-- A row of whether a test runs agrees with the rules of why it does: it comes from the default
-- filter of the override that decides, or, where none decides, from that of the chain of the
-- profile.
pub record AgreesWithFilters (session : Session) (profile : Name) (is_ignored : Bool)
    (rules : List Rule) (row : SettingRow) : Type 0 where
  pub decided : (rule : Rule) → Contains rules rule → rule.verdict ≡ verdicts.Decides
      → IsByFilter session.layers.items is_ignored rule row
  pub undecided : NoneDecides rules → (rule : Rule) → Contains rules rule
      → rule.verdict ≡ verdicts.Fallback → IsByChain is_ignored rule row
  pub origins : NoneDecides rules → AreFilterOrigins session profile row.origins.items
