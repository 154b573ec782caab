-- Rules of a setting that agree with the value that is reported of it.
use Rattle.std.specs.Prelude.{◌≡◌, ◌≢◌, ◌↔◌, ℕ, List, [], ◌∷◌, ◌++◌, Contains, IsSome, None, Some, slice_get, string_bytes}
use Rattle.std.specs.List.{AllByRecursion}
use Rattle.nextest_elements.specs.declared.run_mode.NextestRunMode.{NextestRunMode}
use Rattle.nextest_inheritance.specs.Parents.{parents_in}
use Rattle.nextest_load.specs.Config.{config_parents}
use Rattle.nextest_settings.specs.Profiles.Profiles.{IsChainAndDefault}
use Rattle.nextest_settings.specs.Queries.{fallback_origin}
use Rattle.nextest_elements.specs.declared.setting.Setting.{Setting}
use Rattle.nextest_elements.specs.declared.setting.Setting.TheVariants as at
use Rattle.nextest_tables.specs.Written.{Name}
use Rattle.rinqebo_request.specs.declared.files.layers.Layer.{Layer}
use Rattle.rinqebo_laws.specs.Shown.{AreAlike, AreShownAlike, part_of}
use Rattle.rinqebo_load.specs.Meant.{config_meant}
use Rattle.rinqebo_load.specs.declared.session.Session.{Session}
use Rattle.rinqebo_report.specs.declared.origin.Origin.{Origin}
use Rattle.rinqebo_report.specs.declared.origin.Origin.TheVariants as kinds
use Rattle.rinqebo_report.specs.declared.report.Rule.{Rule}
use Rattle.rinqebo_report.specs.declared.report.SettingRow.{SettingRow}
use Rattle.rinqebo_report.specs.declared.report.Verdict.TheVariants as verdicts
use Rattle.rinqebo_keys.specs.Keys.{key_name, key_table}
use Rattle.rinqebo_origins.specs.Origins.{IsOriginOf, PathStep, key_steps}
use Rattle.rinqebo_origins.specs.RulePlaces.{Place}
use Rattle.rinqebo_origins.specs.TestOrigins.{AreOriginsBy}

-- the rule at a place decides
abbrev pub DecidesAt : List Rule → ℕ → Type 0
DecidesAt rules n =
    (rule : Rule) × (slice_get rules n ≡ Some rule) × (rule.verdict ≡ verdicts.Decides)

-- no rule decides
abbrev pub NoneDecides : List Rule → Type 0
NoneDecides rules = AllByRecursion (λ rule. rule.verdict ≢ verdicts.Decides) rules

-- Rules have one result: at most one of them decides, and the last one, and no other, is the
-- fallback.
pub record HaveOneResult (rules : List Rule) : Type 0 where
  pub one : (n m : ℕ) → DecidesAt rules n → DecidesAt rules m → n ≡ m
  pub front : List Rule
  pub fallback : Rule
  pub are : rules ≡ front ++ fallback ∷ []
  pub is_fallback : fallback.verdict ≡ verdicts.Fallback
  pub no_other : AllByRecursion (λ rule. rule.verdict ≢ verdicts.Fallback) front

-- Rows have one with a key.
pub record HaveKey (rows : List SettingRow) (key : List ℕ) : Type 0 where
  pub row : SettingRow
  pub is_row : Contains rows row
  pub has_key : string_bytes row.key ≡ key

-- Rows have one with a key exactly if some rule decides.
abbrev pub HaveKeyIfDecided : List Rule → List SettingRow → List ℕ → Type 0
HaveKeyIfDecided rules rows key = HaveKey rows key ↔ ((n : ℕ) × DecidesAt rules n)

-- An origin is that of what is at some steps from a rule, which has an origin itself: both are in
-- the same part of a profile, in the same source.
pub record IsWithin (layers : List Layer) (steps : List PathStep) (rule origin : Origin) : Type 0
  where
    pub place : Place
    pub rule_is : IsOriginOf layers place [] rule
    pub origin_is : IsOriginOf layers place steps origin
    pub same_part : part_of origin ≡ part_of rule

-- A row has what a rule writes: the rule writes a value, and the row has this value, with one
-- origin, the place of the value in that rule.
pub record IsByRule (layers : List Layer) (steps : List PathStep) (rule : Rule) (row : SettingRow)
    : Type 0 where
  pub writes : IsSome rule.value
  pub value : AreAlike rule.value row.value
  pub origin : Origin
  pub alone : row.origins.items ≡ origin ∷ []
  pub within : IsWithin layers steps rule.origin origin

-- where a rule of `--why` comes from: its origin, and the others
abbrev pub origins_of : Rule → List Origin
origins_of rule = rule.origin ∷ rule.others.items

-- A row has the origins of the fallback of a setting, shown alike. That of a run wrapper is not
-- written, and a row of it has no origins.
abbrev pub HasOriginsOf : Setting → Rule → SettingRow → Type 0
HasOriginsOf at.RunWrapper fallback row =
    (origins_of fallback ≡ kinds.BuiltIn ∷ []) × (row.origins.items ≡ [])
HasOriginsOf s fallback row = AreShownAlike (origins_of fallback) row.origins.items

-- A row has what the fallback of a setting is: its value, and its origins.
pub record IsByFallback (s : Setting) (fallback : Rule) (row : SettingRow) : Type 0 where
  pub value : AreAlike fallback.value row.value
  pub origins : HasOriginsOf s fallback row

-- Origins are those of a setting that no rule writes, in the profile of a name: nothing writes a
-- priority, a run wrapper has none, and other settings come from the chain of the profile.
pub record AreFallbackOrigins (session : Session) (profile : Name) (s : Setting)
    (mode : NextestRunMode) (origins : List Origin) : Type 0 where
  pub chain : List Name
  pub is_chain : IsChainAndDefault (parents_in (config_parents (config_meant session))) profile
      chain
  pub are : AreOriginsBy (record { layers = session.layers.items; chain = chain }) None
      (key_table s mode) (key_name s) (fallback_origin s) origins

-- A row of a setting agrees with its rules: it has what the rule writes that decides, or, where
-- none decides, what the fallback is, with the origins of a setting that no rule writes.
pub record AgreesWithRules (session : Session) (profile : Name) (s : Setting)
    (mode : NextestRunMode) (rules : List Rule) (row : SettingRow) : Type 0 where
  pub decided : (rule : Rule) → Contains rules rule → rule.verdict ≡ verdicts.Decides
      → IsByRule session.layers.items (key_steps (key_table s mode) (key_name s)) rule row
  pub undecided : NoneDecides rules → (rule : Rule) → Contains rules rule
      → rule.verdict ≡ verdicts.Fallback → IsByFallback s rule row
  pub origins : NoneDecides rules → AreFallbackOrigins session profile s mode row.origins.items
