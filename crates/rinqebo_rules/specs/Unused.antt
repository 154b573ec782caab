-- Rules that hold for none of some tests.
use Rattle.std.specs.Prelude.{◌≡◌, ℕ, List, [], Bool, IsTrue, Vec, false, map, not, Some, filter, option_map, slice_get, unwrap_or}
use Rattle.std.specs.declared.alloc.Global.{Global}
use Rattle.std.specs.List.{AllZip, list_any}
use Rattle.nextest_elements.specs.declared.run_mode.NextestRunMode.{NextestRunMode}
use Rattle.nextest_rules.specs.View.{id_view, script_rule_id_view}
use Rattle.nextest_settings.specs.Deciding.{QueryContext, rule_holds}
use Rattle.nextest_settings.specs.Platforms.{EvaluatedRule}
use Rattle.nextest_settings.specs.Profile.{EvaluatableModel}
use Rattle.nextest_elements.specs.declared.setting.Setting.{Setting}
use Rattle.rinqebo_rules.specs.Distinct.{AreDistinct}
use Rattle.rinqebo_rules.specs.Passed.{AreWritten, ids_of}
use Rattle.rinqebo_rules.specs.declared.unused.UnusedRules.{UnusedRules}
use Rattle.rinqebo_rules.specs.declared.unused.UsedRules.{UsedRules}

-- whether a rule holds for some of the tests
abbrev pub is_used : {M W : Type 0} → List (QueryContext M) → EvaluatedRule M W → Bool
is_used tests rule = list_any (λ test. rule_holds test rule) tests

-- the rules that hold for none of the tests, in their order
abbrev pub unused_among : {M W : Type 0} → List (QueryContext M) → List (EvaluatedRule M W)
    → List (EvaluatedRule M W)
unused_among tests rules = filter (λ rule. not (is_used tests rule)) rules

-- A rule holds for none of the tests.
abbrev pub HoldsForNone : {M W : Type 0} → List (QueryContext M) → EvaluatedRule M W → Type 0
HoldsForNone {M} tests rule =
    (n : ℕ) (test : QueryContext M) → slice_get tests n ≡ Some test → rule_holds test rule ≡ false

-- Ids are those of the rules of a profile that hold for none of the tests, and of no others: of its
-- overrides in order, and of its script rules in order.
pub record AreUnusedIn {M : Type 0} (tests : List (QueryContext M)) (profile : EvaluatableModel M)
    (unused : UnusedRules) : Type 0 where
  pub overrides : map (λ id. id_view id.now) unused.overrides.items
      ≡ map (λ rule. rule.writes.id) (unused_among tests profile.overrides)
  pub script_rules : map (λ id. script_rule_id_view id.now) unused.script_rules.items
      ≡ map (λ rule. rule.writes.id) (unused_among tests profile.script_rules)

-- the settings that the override of a number is known to write
abbrev pub written_at : List (Vec Setting Global) → ℕ → List Setting
written_at written number =
    unwrap_or (option_map (λ settings. settings.items) (slice_get written number)) []

-- Rules of a profile are marked by whether they hold for some of the tests. The settings are known
-- that each override writes in a mode, and of the rules of each kind, whether no two of them have
-- one id.
pub record AreUsedIn {M : Type 0} (tests : List (QueryContext M)) (mode : NextestRunMode)
    (profile : EvaluatableModel M) (used : UsedRules) : Type 0 where
  pub overrides : used.overrides.items ≡ map (is_used tests) profile.overrides
  pub script_rules : used.script_rules.items ≡ map (is_used tests) profile.script_rules
  pub written : AllZip (AreWritten mode) profile.overrides used.written.items
  pub distinct_overrides : IsTrue used.are_overrides_distinct
      → AreDistinct (ids_of (λ w. w.id) profile.overrides)
  pub distinct_script_rules : IsTrue used.are_script_rules_distinct
      → AreDistinct (ids_of (λ w. w.id) profile.script_rules)
