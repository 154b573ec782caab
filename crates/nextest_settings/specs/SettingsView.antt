-- What contracts see of the settings of a test.
use Rattle.std.specs.Prelude.{List, Option, None, Some, option_map, option_and_then, slice_get, pos, map, string_bytes}
use Rattle.std.specs.Option.{option_or}
use Rattle.nextest_elements.specs.declared.run_mode.NextestRunMode.{NextestRunMode}
use Rattle.nextest_elements.specs.declared.test_group.TestGroup.{TestGroup}
use Rattle.nextest_rules.specs.Rules.{Compiled, OverrideUse, ScriptRuleUse}
use Rattle.nextest_scripts.specs.ScriptTexts.{WrapperScriptText, wrapper_script_view}
use Rattle.nextest_settings.specs.ChainValues.{stored_in, slow_timeout_of}
use Rattle.nextest_settings.specs.Queries.{Origin, by_override, by_script, fallback_origin}
use Rattle.nextest_elements.specs.Settings.{index_of}
use Rattle.nextest_settings.specs.Settings.{ValueOf, sets}
use Rattle.nextest_settings.specs.View.{override_ref_view, script_rule_ref_view}
use Rattle.nextest_elements.specs.declared.setting.Setting.{Setting}
use Rattle.nextest_elements.specs.declared.setting.Setting.TheVariants as at
use Rattle.nextest_settings.specs.declared.test_settings.TestSettings.{TestSettings}
use Rattle.nextest_settings.specs.declared.values.ProfileValues.{ProfileValues}

-- what the slot of a setting holds
abbrev pub slot_at : {R : Type 0} → List (Option R) → Setting → Option R
slot_at slots s = option_and_then (λ slot. slot) (slice_get slots (index_of s))

-- what counts where no rule writes a setting, with this as the group of all tests
abbrev pub fallback_view : ProfileValues → TestGroup → NextestRunMode → (s : Setting)
    → Option (ValueOf s)
fallback_view v group mode at.Priority = Some (record { 0 = pos 0 })
fallback_view v group mode at.ThreadsRequired = Some v.tests.threads_required
fallback_view v group mode at.RunWrapper = None
fallback_view v group mode at.RunExtraArgs = Some (map string_bytes v.tests.run_extra_args.now)
fallback_view v group mode at.Retries = Some v.tests.retries
fallback_view v group mode at.FlakyResult = Some v.tests.flaky_result
fallback_view v group mode at.SlowTimeout = Some (slow_timeout_of v mode)
fallback_view v group mode at.LeakTimeout = Some v.tests.leak_timeout
fallback_view v group mode at.TestGroup = Some group
fallback_view v group mode at.SuccessOutput = Some v.tests.success_output
fallback_view v group mode at.FailureOutput = Some v.tests.failure_output
fallback_view v group mode at.JunitStoreSuccessOutput = Some (stored_in v.report).success_output
fallback_view v group mode at.JunitStoreFailureOutput = Some (stored_in v.report).failure_output
fallback_view v group mode at.JunitReportSkipped = Some (stored_in v.report).skipped
fallback_view v group mode at.JunitFlakyFailStatus = Some (stored_in v.report).flaky_fail_status

-- what the rules write that decide a setting
abbrev pub written_at : {F S Src E T N P : Type 0} → TestSettings F S Src E T N P → (s : Setting)
    → Option (ValueOf s)
written_at t at.RunWrapper =
    option_and_then (λ w. (script_rule_ref_view w.rule).writes.scripts.run_wrapper) t.run_wrapper
written_at t s =
    option_and_then (λ r. sets (override_ref_view r.rule).writes.settings t.mode s)
    (slot_at t.winners.slots s)

-- the value of a setting
abbrev pub value_at : {F S Src E T N P : Type 0} → TestSettings F S Src E T N P → (s : Setting)
    → Option (ValueOf s)
value_at t s = option_or (written_at t s) (fallback_view t.values t.global_group t.mode s)

-- the origin of what the rules write that decide a setting
abbrev pub written_origin_at : {F S Src E T N P : Type 0} → TestSettings F S Src E T N P
    → Setting → Option Origin
written_origin_at t at.RunWrapper = option_map (λ w. by_script) t.run_wrapper
written_origin_at t s =
    option_map (λ r. by_override (override_ref_view r.rule).writes.id) (slot_at t.winners.slots s)

-- the origin of a setting, if it has one
abbrev pub origin_at : {F S Src E T N P : Type 0} → TestSettings F S Src E T N P → Setting
    → Option Origin
origin_at t s = option_or (written_origin_at t s) (fallback_origin s)

-- the override that decides a setting, if one does: as code holds it, with its platforms
abbrev pub override_at : {F S Src E T N P : Type 0} → TestSettings F S Src E T N P → Setting
    → Option (Compiled E N (OverrideUse E))
override_at t s = option_map (λ r. override_ref_view r.rule) (slot_at t.winners.slots s)

-- what the script rule writes that gives the test its wrapper, if one does
abbrev pub wrapping_use_at : {F S Src E T N P : Type 0} → TestSettings F S Src E T N P
    → Option ScriptRuleUse
wrapping_use_at t = option_map (λ w. (script_rule_ref_view w.rule).writes) t.run_wrapper

-- the script that wraps the test
abbrev pub wrapper_at : {F S Src E T N P : Type 0} → TestSettings F S Src E T N P
    → Option WrapperScriptText
wrapper_at t = option_map (λ w. wrapper_script_view w.script.now) t.run_wrapper
