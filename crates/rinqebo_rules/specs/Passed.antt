-- Rules that hold for a test, or do not, by what decides its settings.
use Rattle.std.specs.Prelude.{◌≡◌, ◌≢◌, ◌<◌, ℕ, List, Bool, IsTrue, false, true, Option, None, Some, Vec, filter, map, slice_get}
use Rattle.std.specs.declared.alloc.Global.{Global}
use Rattle.nextest_elements.specs.declared.run_mode.NextestRunMode.{NextestRunMode}
use Rattle.nextest_rules.specs.Rules.{OverrideUse, RuleId}
use Rattle.nextest_settings.specs.Deciding.{QueryContext, decides}
use Rattle.nextest_settings.specs.Platforms.{EvaluatedRule}
use Rattle.nextest_settings.specs.Queries.{Origin, by_override}
use Rattle.nextest_elements.specs.Settings.{index_of, settings}
use Rattle.nextest_settings.specs.Settings.{is_set}
use Rattle.nextest_elements.specs.declared.setting.Setting.{Setting}
use Rattle.rinqebo_rules.specs.Distinct.{AreDistinct}

-- the ids of rules
abbrev pub ids_of : {M W : Type 0} → (W → RuleId) → List (EvaluatedRule M W) → List RuleId
ids_of id_of rules = map (λ r. id_of r.writes) rules

-- A place is that of the first rule of an id: none of the rules before it has the id, and the one
-- at it has, if there is one.
pub record IsPlaceOf {M W : Type 0} (id_of : W → RuleId) (id : RuleId) (place : ℕ)
    (rules : List (EvaluatedRule M W)) : Type 0 where
  pub before : (n : ℕ) (rule : EvaluatedRule M W) → n < place → slice_get rules n ≡ Some rule
      → id_of rule.writes ≢ id
  pub here : (rule : EvaluatedRule M W) → slice_get rules place ≡ Some rule
      → id_of rule.writes ≡ id

-- the override that an origin names, if it names one
abbrev pub override_in : Option Origin → Option RuleId
override_in (Some (by_override id)) = Some id
override_in _ = None

-- So many of the first rules do not decide something, and the next one does if there is one, where
-- no two rules have one id.
pub record IsPassed {M W : Type 0} (query : QueryContext M) (wants : W → Bool) (id_of : W → RuleId)
    (rules : List (EvaluatedRule M W)) (count : ℕ) : Type 0 where
  pub before : (n : ℕ) (rule : EvaluatedRule M W) → n < count → slice_get rules n ≡ Some rule
      → decides query wants rule ≡ false
  pub next : AreDistinct (ids_of id_of rules) → (rule : EvaluatedRule M W)
      → slice_get rules count ≡ Some rule → decides query wants rule ≡ true

-- the settings that an override writes
abbrev pub AreWritten : {M : Type 0} → NextestRunMode → EvaluatedRule M (OverrideUse M)
    → Vec Setting Global → Type 0
AreWritten mode rule written =
    written.items ≡ filter (λ s. is_set rule.writes.settings mode s) settings

-- a number is among the first ones, and so its rule does not hold; or it is the next one, and its
-- rule holds
abbrev pub IsShown : (are_distinct : Bool) → (number count : ℕ) → (holds : Bool) → Type 0
IsShown are_distinct number count false = number < count
IsShown are_distinct number count true = (number ≡ count) × IsTrue are_distinct

-- a setting shows whether the override of a number holds, which writes it
pub record IsShownAt (setting : Setting) (number : ℕ) (passed : List ℕ) (are_distinct : Bool)
    (holds : Bool) : Type 0 where
  pub count : ℕ
  pub passes : slice_get passed (index_of setting) ≡ Some count
  pub shown : IsShown are_distinct number count holds

-- some setting that an override writes shows whether it holds
pub record IsShownBy (written : List Setting) (number : ℕ) (passed : List ℕ) (are_distinct : Bool)
    (holds : Bool) : Type 0 where
  pub place : ℕ
  pub setting : Setting
  pub stands : slice_get written place ≡ Some setting
  pub shown : IsShownAt setting number passed are_distinct holds

-- nothing shows whether a rule holds
abbrev pub IsHidden : (shows : Bool → Type 0) → Type 0
IsHidden shows = (holds : Bool) → shows holds → ⊥
