-- What the settings of a test show is what the rules give it.
use Rattle.std.proofs.Common.{◌≡◌, ◌∙◌, Option, Some, None, option_map, option_and_then, List, map, refl, ap, sym, slice_get}
use Rattle.std.proofs.lemmas.Option.{slice_get-map}
use Rattle.std.specs.Option.{option_or}
use Rattle.nextest_elements.specs.declared.test_group.TestGroup.TheVariants.{Global}
use Rattle.nextest_tables.specs.Written.{WrittenFields}
use Rattle.nextest_rules.specs.Rules.{ScriptRuleUse}
use Rattle.nextest_settings.specs.ChainValues.{AreValues}
use Rattle.nextest_settings.specs.Deciding.{QueryContext}
use Rattle.nextest_settings.specs.Pass.{Override, slots_view, winners_of}
use Rattle.nextest_settings.specs.Platforms.{EvaluatedRule, rule_text}
use Rattle.nextest_settings.specs.Queries.{deciding_override, wrapping_rule, written_value, value_by, written_origin, origin_by, by_override, by_script, fallback_origin}
use Rattle.nextest_elements.specs.Settings.{settings, index_of}
use Rattle.nextest_settings.specs.Settings.{sets}
use Rattle.nextest_settings.specs.SettingsView.{slot_at, written_at, value_at, fallback_view, written_origin_at, origin_at, override_at}
use Rattle.nextest_settings.specs.View.{meant_override, override_ref_view, override_text_meaning, script_rule_ref_view}
use Rattle.nextest_elements.specs.declared.setting.Setting.{Setting}
use Rattle.nextest_elements.specs.declared.setting.Setting.TheVariants as at
use Rattle.nextest_settings.specs.declared.test_settings.TestSettings.{TestSettings}
use Rattle.nextest_settings.proofs.FallbackOf.{fallback_view_is_fallback}

option_and_then-map : {A B C : Type 0} (f : A → B) (h : B → Option C) (o : Option A)
    → option_and_then h (option_map f o) ≡ option_and_then (λ x. h (f x)) o
option_and_then-map f h None = refl
option_and_then-map f h (Some x) = refl

option_map-map : {A B C : Type 0} (f : A → B) (h : B → C) (o : Option A)
    → option_map h (option_map f o) ≡ option_map (λ x. h (f x)) o
option_map-map f h None = refl
option_map-map f h (Some x) = refl

inner-map : {A B : Type 0} (f : A → B) (o : Option (Option A))
    → option_and_then (λ slot. slot) (option_map (option_map f) o) ≡ option_map f (option_and_then (λ slot. slot) o)
inner-map f None = refl
inner-map f (Some x) = refl

slot-map : {A B : Type 0} (f : A → B) (slots : List (Option A)) (s : Setting)
    → slot_at (map (option_map f) slots) s ≡ option_map f (slot_at slots s)
slot-map f slots s = rw (slice_get-map (option_map f) slots (index_of s)) (inner-map f (slice_get slots (index_of s)))

slot-settings : {B : Type 0} (w : Setting → Option B) (s : Setting) → slot_at (map w settings) s ≡ w s
unfolding settings
slot-settings w at.Priority = refl
slot-settings w at.ThreadsRequired = refl
slot-settings w at.RunWrapper = refl
slot-settings w at.RunExtraArgs = refl
slot-settings w at.Retries = refl
slot-settings w at.FlakyResult = refl
slot-settings w at.SlowTimeout = refl
slot-settings w at.LeakTimeout = refl
slot-settings w at.TestGroup = refl
slot-settings w at.SuccessOutput = refl
slot-settings w at.FailureOutput = refl
slot-settings w at.JunitStoreSuccessOutput = refl
slot-settings w at.JunitStoreFailureOutput = refl
slot-settings w at.JunitReportSkipped = refl
slot-settings w at.JunitFlakyFailStatus = refl

-- what a slot holds, where the slots show something of each setting
pub slot_is : {A B : Type 0} (f : A → B) (slots : List (Option A)) (w : Setting → Option B)
    → map (option_map f) slots ≡ map w settings → (s : Setting) → option_map f (slot_at slots s) ≡ w s
slot_is f slots w shown s = sym (slot-map f slots s) ∙ ap (λ l. slot_at l s) shown ∙ slot-settings w s

-- the settings of a test whose slots and wrapper are what the rules decide
module _ {F S Src E T N P M : Type 0} (meaning : E → M) (t : TestSettings F S Src E T N P)
    (query : QueryContext M) (overrides : List (Override M)) (script_rules : List (EvaluatedRule M ScriptRuleUse))
    (shown : slots_view meaning t.winners.slots ≡ winners_of query t.mode overrides settings)
    (wrapped : option_map (λ w. (script_rule_ref_view w.rule).writes) t.run_wrapper
    ≡ option_map (λ r. r.writes) (wrapping_rule query script_rules)) where
  slot-shown : (s : Setting)
      → option_map (meant_override meaning) (slot_at t.winners.slots s) ≡ deciding_override query t.mode overrides s
  slot-shown s = slot_is (meant_override meaning) t.winners.slots
      (λ s. deciding_override query t.mode overrides s) shown s

  by_slot : {C : Type 0} (s : Setting) (h : Override M → Option C)
      → option_and_then (λ x. h (meant_override meaning x)) (slot_at t.winners.slots s)
      ≡ option_and_then h (deciding_override query t.mode overrides s)
  by_slot s h = sym (option_and_then-map (meant_override meaning) h (slot_at t.winners.slots s))
      ∙ ap (option_and_then h) (slot-shown s)

  by_wrapper : {C : Type 0} (h : ScriptRuleUse → Option C)
      → option_and_then (λ w. h (script_rule_ref_view w.rule).writes) t.run_wrapper
      ≡ option_and_then (λ r. h r.writes) (wrapping_rule query script_rules)
  by_wrapper h =
      sym (option_and_then-map (λ w. (script_rule_ref_view w.rule).writes) h t.run_wrapper)
      ∙ ap (option_and_then h) wrapped ∙ option_and_then-map (λ r. r.writes) h (wrapping_rule query script_rules)

  written_shown : (s : Setting) → written_at t s ≡ written_value query t.mode overrides script_rules s
  written_shown at.Priority = by_slot at.Priority (λ r. sets r.writes.settings t.mode at.Priority)
  written_shown at.ThreadsRequired = by_slot at.ThreadsRequired (λ r. sets r.writes.settings t.mode at.ThreadsRequired)
  written_shown at.RunWrapper = by_wrapper (λ w. w.scripts.run_wrapper)
  written_shown at.RunExtraArgs = by_slot at.RunExtraArgs (λ r. sets r.writes.settings t.mode at.RunExtraArgs)
  written_shown at.Retries = by_slot at.Retries (λ r. sets r.writes.settings t.mode at.Retries)
  written_shown at.FlakyResult = by_slot at.FlakyResult (λ r. sets r.writes.settings t.mode at.FlakyResult)
  written_shown at.SlowTimeout = by_slot at.SlowTimeout (λ r. sets r.writes.settings t.mode at.SlowTimeout)
  written_shown at.LeakTimeout = by_slot at.LeakTimeout (λ r. sets r.writes.settings t.mode at.LeakTimeout)
  written_shown at.TestGroup = by_slot at.TestGroup (λ r. sets r.writes.settings t.mode at.TestGroup)
  written_shown at.SuccessOutput = by_slot at.SuccessOutput (λ r. sets r.writes.settings t.mode at.SuccessOutput)
  written_shown at.FailureOutput = by_slot at.FailureOutput (λ r. sets r.writes.settings t.mode at.FailureOutput)
  written_shown at.JunitStoreSuccessOutput =
      by_slot at.JunitStoreSuccessOutput (λ r. sets r.writes.settings t.mode at.JunitStoreSuccessOutput)
  written_shown at.JunitStoreFailureOutput =
      by_slot at.JunitStoreFailureOutput (λ r. sets r.writes.settings t.mode at.JunitStoreFailureOutput)
  written_shown at.JunitReportSkipped =
      by_slot at.JunitReportSkipped (λ r. sets r.writes.settings t.mode at.JunitReportSkipped)
  written_shown at.JunitFlakyFailStatus =
      by_slot at.JunitFlakyFailStatus (λ r. sets r.writes.settings t.mode at.JunitFlakyFailStatus)

  pub values_shown : (fields : List WrittenFields) → AreValues fields t.values → t.global_group ≡ Global
      → (s : Setting) → value_at t s ≡ value_by query t.mode overrides script_rules fields s
  values_shown fields values global s =
      ap (λ o. option_or o (fallback_view t.values t.global_group t.mode s)) (written_shown s)
      ∙ ap (λ group. option_or (written_value query t.mode overrides script_rules s)
      (fallback_view t.values group t.mode s)) global
      ∙ ap (λ o. option_or (written_value query t.mode overrides script_rules s) o)
      (fallback_view_is_fallback fields t.values values t.mode s)

  of_slot : (s : Setting) → option_map (λ x. by_override (meant_override meaning x).writes.id)
      (slot_at t.winners.slots s)
      ≡ option_map (λ r. by_override r.writes.id) (deciding_override query t.mode overrides s)
  of_slot s = sym (option_map-map (meant_override meaning) (λ r. by_override r.writes.id)
      (slot_at t.winners.slots s)) ∙ ap (option_map (λ r. by_override r.writes.id)) (slot-shown s)

  -- the override that decides a setting, by what it says
  pub overrides_shown : (s : Setting)
      → option_map (override_text_meaning meaning) (override_at t s)
      ≡ option_map rule_text (deciding_override query t.mode overrides s)
  overrides_shown s =
      option_map-map (λ r. override_ref_view r.rule) (override_text_meaning meaning) (slot_at t.winners.slots s)
      ∙ sym (option_map-map (meant_override meaning) rule_text (slot_at t.winners.slots s))
      ∙ ap (option_map rule_text) (slot-shown s)

  of_wrapper : option_map (λ w. by_script) t.run_wrapper
      ≡ option_map (λ r. by_script) (wrapping_rule query script_rules)
  of_wrapper =
      sym (option_map-map (λ w. (script_rule_ref_view w.rule).writes) (λ u. by_script) t.run_wrapper)
      ∙ ap (option_map (λ u. by_script)) wrapped
      ∙ option_map-map (λ r. r.writes) (λ u. by_script) (wrapping_rule query script_rules)

  written_origin_shown : (s : Setting) → written_origin_at t s ≡ written_origin query t.mode overrides script_rules s
  written_origin_shown at.Priority = of_slot at.Priority
  written_origin_shown at.ThreadsRequired = of_slot at.ThreadsRequired
  written_origin_shown at.RunWrapper = of_wrapper
  written_origin_shown at.RunExtraArgs = of_slot at.RunExtraArgs
  written_origin_shown at.Retries = of_slot at.Retries
  written_origin_shown at.FlakyResult = of_slot at.FlakyResult
  written_origin_shown at.SlowTimeout = of_slot at.SlowTimeout
  written_origin_shown at.LeakTimeout = of_slot at.LeakTimeout
  written_origin_shown at.TestGroup = of_slot at.TestGroup
  written_origin_shown at.SuccessOutput = of_slot at.SuccessOutput
  written_origin_shown at.FailureOutput = of_slot at.FailureOutput
  written_origin_shown at.JunitStoreSuccessOutput = of_slot at.JunitStoreSuccessOutput
  written_origin_shown at.JunitStoreFailureOutput = of_slot at.JunitStoreFailureOutput
  written_origin_shown at.JunitReportSkipped = of_slot at.JunitReportSkipped
  written_origin_shown at.JunitFlakyFailStatus = of_slot at.JunitFlakyFailStatus

  pub origins_shown : (s : Setting) → origin_at t s ≡ origin_by query t.mode overrides script_rules s
  origins_shown s = ap (λ o. option_or o (fallback_origin s)) (written_origin_shown s)
