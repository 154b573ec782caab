-- What is behind the rules is the fallback.
use Rattle.std.proofs.Common.{◌≡◌, ℕ, List, Option, Some, None, option_map, refl, sym, Bor}
use Rattle.nextest_elements.specs.declared.run_mode.NextestRunMode.{NextestRunMode}
use Rattle.nextest_elements.specs.declared.run_mode.NextestRunMode.TheVariants.{Test, Benchmark}
use Rattle.nextest_elements.specs.declared.test_group.TestGroup.TheVariants.{Global}
use Rattle.nextest_tables.specs.Written.{WrittenFields}
use Rattle.nextest_settings.specs.ChainValues.{AreValues, stored_by, slow_timeout_of}
use Rattle.nextest_settings.specs.Settings.{fallback_of, if_reported, slow_timeout_in}
use Rattle.nextest_settings.specs.SettingsView.{fallback_view}
use Rattle.nextest_elements.specs.declared.setting.Setting.{Setting}
use Rattle.nextest_elements.specs.declared.setting.Setting.TheVariants as at
use Rattle.nextest_settings.specs.declared.values.ProfileValues.{ProfileValues}
use Rattle.nextest_settings.specs.declared.values.StoredValues.{StoredValues}

-- what is stored by the path of a report
stored : {X : Type 0} (path : Option (Bor (List ℕ))) (o : Option (List ℕ)) (r : Option X) (v : StoredValues)
    (read : StoredValues → X) (none : X) → o ≡ option_map (λ p. p.now) path
    → r ≡ Some (read v) → Some none ≡ Some (read (stored_by None v))
    → Some (read (stored_by path v)) ≡ if_reported o r none
stored None o r v read none path is nothing = rw path (sym nothing)
stored (Some p) o r v read none path is nothing = rw path (sym is)

module _ (fs : List WrittenFields) (v : ProfileValues) (h : AreValues fs v) where
  slow : (mode : NextestRunMode) → Some (slow_timeout_of v mode) ≡ slow_timeout_in fs mode
  slow Test = sym h.tests.slow_timeout
  slow Benchmark = sym h.bench.slow_timeout

  pub fallback_view_is_fallback : (mode : NextestRunMode) (s : Setting)
      → fallback_view v Global mode s ≡ fallback_of fs mode s
  fallback_view_is_fallback mode at.Priority = refl
  fallback_view_is_fallback mode at.ThreadsRequired = sym h.tests.threads_required
  fallback_view_is_fallback mode at.RunWrapper = refl
  fallback_view_is_fallback mode at.RunExtraArgs = sym h.tests.run_extra_args
  fallback_view_is_fallback mode at.Retries = sym h.tests.retries
  fallback_view_is_fallback mode at.FlakyResult = sym h.tests.flaky_result
  fallback_view_is_fallback mode at.SlowTimeout = slow mode
  fallback_view_is_fallback mode at.LeakTimeout = sym h.tests.leak_timeout
  fallback_view_is_fallback mode at.TestGroup = refl
  fallback_view_is_fallback mode at.SuccessOutput = sym h.tests.success_output
  fallback_view_is_fallback mode at.FailureOutput = sym h.tests.failure_output
  fallback_view_is_fallback mode at.JunitStoreSuccessOutput =
      stored v.report.path _ _ v.report.stored (λ s. s.success_output) _ h.report.path
      h.report.stored.success_output refl
  fallback_view_is_fallback mode at.JunitStoreFailureOutput =
      stored v.report.path _ _ v.report.stored (λ s. s.failure_output) _ h.report.path
      h.report.stored.failure_output refl
  fallback_view_is_fallback mode at.JunitReportSkipped =
      stored v.report.path _ _ v.report.stored (λ s. s.skipped) _ h.report.path h.report.stored.skipped refl
  fallback_view_is_fallback mode at.JunitFlakyFailStatus =
      stored v.report.path _ _ v.report.stored (λ s. s.flaky_fail_status) _ h.report.path
      h.report.stored.flaky_fail_status refl
