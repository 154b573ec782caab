-- The numbers that are evaluated for the settings of a test are those of the rules that are evaluated.
use Rattle.std.proofs.Common.{◌≡◌, ◌≤◌, ◌↔◌, ℕ, map, ◌∷◌, [], Some, is_some, length, refl, slice_get}
use Rattle.std.specs.List.{Contains, count_by}
use Rattle.nextest_elements.specs.declared.run_mode.NextestRunMode.{NextestRunMode}
use Rattle.nextest_rules.specs.Rules.{ScriptRuleUse}
use Rattle.nextest_settings.specs.Deciding.{QueryContext}
use Rattle.nextest_settings.specs.Profile.{EvaluatableModel}
use Rattle.nextest_settings.specs.Queries.{evaluated_for_test, filters_of, IsEvaluatedForTest}
use Rattle.nextest_elements.specs.Settings.{settings}
use Rattle.nextest_settings.specs.Settings.{is_set}
use Rattle.nextest_elements.specs.declared.setting.Setting.{Setting}
use Rattle.nextest_settings.proofs.IsEvaluated.{both_evaluated, evaluated_both, both_count}
use Rattle.nextest_elements.proofs.StandsOnce.{stands_once}

-- each setting is among all
each_there : (s : Setting) → (n : ℕ) × (slice_get settings n ≡ Some s)
each_there s = ((stands_once s).place, (stands_once s).there)

-- the one thing that a script rule is evaluated for
pub one_there : (u : Unit {0}) → (n : ℕ) × (slice_get (tt ∷ []) n ≡ Some u)
one_there u = (0, refl)

module _ {M : Type 0} (query : QueryContext M) (mode : NextestRunMode) (p : EvaluatableModel M) where
  pub test_exactly : (n : ℕ) → Contains (evaluated_for_test query mode p) n ↔ IsEvaluatedForTest query mode p n
  test_exactly n = (
    both_evaluated (λ (s : Setting) w. is_set w.settings mode s) settings each_there
        (λ (u : Unit {0}) (w : ScriptRuleUse). is_some w.scripts.run_wrapper) (tt ∷ []) one_there query p.overrides
        p.script_rules n,
    evaluated_both (λ (s : Setting) w. is_set w.settings mode s) settings each_there
        (λ (u : Unit {0}) (w : ScriptRuleUse). is_some w.scripts.run_wrapper) (tt ∷ []) one_there query p.overrides
        p.script_rules n,
  )

  pub test_count : length (evaluated_for_test query mode p) ≤ count_by is_some (filters_of p)
  test_count = both_count (map (λ s w. is_set w.settings mode s) settings)
      ((λ (w : ScriptRuleUse). is_some w.scripts.run_wrapper) ∷ []) query p.overrides p.script_rules
