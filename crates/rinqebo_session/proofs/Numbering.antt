-- Numbers of settings that are equal are equal.
use Rattle.std.proofs.Common.{◌≡◌, ◌∙◌, ℕ, List, Option, option_map, length, ap, sym}
use Rattle.std.specs.Borrow.{Bor}
use Rattle.nextest_settings.specs.Settings.{ValueOf}
use Rattle.nextest_elements.specs.declared.setting.Setting.{Setting}
use Rattle.nextest_elements.specs.declared.setting.Setting.TheVariants as at
use Rattle.rinqebo_forms.specs.Numbers.{flag_number, retry_numbers, thread_numbers, slow_numbers, leak_numbers, output_number, flaky_number, report_number, status_number}
use Rattle.rinqebo_session.specs.Answering.{group_index, wrapper_index, AreNumbersOf}
use Rattle.rinqebo_session.specs.declared.profile.Group.{Group}
use Rattle.rinqebo_session.specs.declared.settings.SettingNumbers.{SettingNumbers}

pub numbers_by : (known : List Group) (wrappers : List (Bor (List ℕ))) (v w : (s : Setting) → Option (ValueOf s))
    (n : SettingNumbers) → ((s : Setting) → v s ≡ w s) → AreNumbersOf known wrappers v n
    → AreNumbersOf known wrappers w n
numbers_by known wrappers v w n same is = record {
  priority = ap (option_map (λ p. p.0)) (sym (same at.Priority)) ∙ is.priority;
  threads_required = ap (option_map thread_numbers) (sym (same at.ThreadsRequired)) ∙ is.threads_required;
  run_wrapper = ap (wrapper_index wrappers) (sym (same at.RunWrapper)) ∙ is.run_wrapper;
  run_extra_args = ap (option_map length) (sym (same at.RunExtraArgs)) ∙ is.run_extra_args;
  retries = ap (option_map retry_numbers) (sym (same at.Retries)) ∙ is.retries;
  flaky_result = ap (option_map flaky_number) (sym (same at.FlakyResult)) ∙ is.flaky_result;
  slow_timeout = ap (option_map slow_numbers) (sym (same at.SlowTimeout)) ∙ is.slow_timeout;
  leak_timeout = ap (option_map leak_numbers) (sym (same at.LeakTimeout)) ∙ is.leak_timeout;
  test_group = ap (option_map (group_index known)) (sym (same at.TestGroup)) ∙ is.test_group;
  group_threads = is.group_threads;
  success_output = ap (option_map output_number) (sym (same at.SuccessOutput)) ∙ is.success_output;
  failure_output = ap (option_map output_number) (sym (same at.FailureOutput)) ∙ is.failure_output;
  store_success = ap (option_map flag_number) (sym (same at.JunitStoreSuccessOutput)) ∙ is.store_success;
  store_failure = ap (option_map flag_number) (sym (same at.JunitStoreFailureOutput)) ∙ is.store_failure;
  report_skipped = ap (option_map report_number) (sym (same at.JunitReportSkipped)) ∙ is.report_skipped;
  fail_status = ap (option_map status_number) (sym (same at.JunitFlakyFailStatus)) ∙ is.fail_status;
}
