-- What forms of values accept has only faults of what is missing or out of range.
use Rattle.std.proofs.Common.{[], ◌∷◌, true, codes, refl, Bool, false, if◌then◌else◌, Some, None}
use Rattle.nextest_tree.specs.Leaf.{a_text}
use Rattle.nextest_tree.specs.Schema.{list_of, out_of_range}
use Rattle.nextest_elements.specs.Bench.{bench_fields, bench, bench_override_fields, bench_override}
use Rattle.nextest_elements.specs.FlakyResult.{flaky_result_names, flaky_result_expected, a_flaky_result}
use Rattle.nextest_elements.specs.Junit.{report_skip_policy_names, report_skip_policy_expected, a_report_skip_policy, junit_flaky_fail_status_names, junit_flaky_fail_status_expected, a_junit_flaky_fail_status, junit_override_fields, a_junit_override, junit_fields, a_junit}
use Rattle.nextest_elements.specs.LeakTimeout.{leak_result_text, leak_result_names, leak_result_expected, a_leak_result, leak_fields, leak_timeout}
use Rattle.nextest_elements.specs.MaxFail.{max_fail_fields, a_max_fail}
use Rattle.nextest_elements.specs.RetryPolicy.{retry_across, backoff_names, backoff_expected, a_backoff, retry_fields, retry}
use Rattle.nextest_elements.specs.SlowTimeout.{slow_result_text, slow_result_names, slow_result_expected, a_slow_result, slow_fields, slow_timeout}
use Rattle.nextest_elements.specs.StatusLevel.{status_level_names, status_level_expected, a_status_level, final_status_level_names, final_status_level_expected, a_final_status_level}
use Rattle.nextest_elements.specs.TestOutputDisplay.{test_output_display_names, test_output_display_expected, a_test_output_display}
use Rattle.nextest_scripts.specs.Command.{relative_to_names, relative_to_expected, a_relative_to}
use Rattle.nextest_scripts.specs.SetupScript.{setup_result_names, setup_result_expected, a_setup_result, setup_timeout_fields, a_setup_timeout}
use Rattle.nextest_scripts.specs.WrapperScript.{target_runner_names, target_runner_expected, a_target_runner}
use Rattle.nextest_shape.specs.FileForm.{slow_form, slow_words, leak_timeout_form, retries_form, flaky_result_form, fail_fast_form, status_level_form, final_status_level_form, output_form, override_junit_form, profile_junit_form, override_bench_form, profile_bench_form, some_text, words, texts_form}
use Rattle.nextest_tree.specs.Node.{Entries}
use Rattle.nextest_shape.proofs.Mild.{MildAll, IsMildIf, mild_any, mild_struct, mild_or, mild_list}
use Rattle.nextest_shape.proofs.MildLeaves.{mild_text, mild_bool, mild_names, mild_positive, mild_count, mild_limit, mild_duration}

-- ---- words

pub mild_flaky_result : MildAll a_flaky_result flaky_result_form
unfolding a_flaky_result flaky_result_names
mild_flaky_result = mild_names flaky_result_names flaky_result_expected

pub mild_status_level : MildAll a_status_level status_level_form
unfolding a_status_level status_level_names
mild_status_level = mild_names status_level_names status_level_expected

pub mild_final_status_level : MildAll a_final_status_level final_status_level_form
unfolding a_final_status_level final_status_level_names
mild_final_status_level = mild_names final_status_level_names final_status_level_expected

pub mild_output : MildAll a_test_output_display output_form
unfolding a_test_output_display test_output_display_names
mild_output = mild_names test_output_display_names test_output_display_expected

pub mild_slow_result : MildAll a_slow_result (words slow_words)
unfolding a_slow_result slow_result_text slow_result_names
mild_slow_result = mild_names slow_result_names slow_result_expected

pub mild_setup_result : MildAll a_setup_result (words (codes "fail" ∷ []))
unfolding a_setup_result setup_result_names
mild_setup_result = mild_names setup_result_names setup_result_expected

pub mild_leak_result : MildAll a_leak_result (words (codes "pass" ∷ codes "fail" ∷ []))
unfolding a_leak_result leak_result_text leak_result_names
mild_leak_result = mild_names leak_result_names leak_result_expected

pub mild_backoff : MildAll a_backoff (words (codes "fixed" ∷ codes "exponential" ∷ []))
unfolding a_backoff backoff_names
mild_backoff = mild_names backoff_names backoff_expected

pub mild_skipped : MildAll a_report_skip_policy (words (codes "none" ∷ codes "all" ∷ []))
unfolding a_report_skip_policy report_skip_policy_names
mild_skipped = mild_names report_skip_policy_names report_skip_policy_expected

pub mild_flaky_status : MildAll a_junit_flaky_fail_status (words (codes "failure" ∷ codes "success" ∷ []))
unfolding a_junit_flaky_fail_status junit_flaky_fail_status_names
mild_flaky_status = mild_names junit_flaky_fail_status_names junit_flaky_fail_status_expected

pub mild_relative_to : MildAll a_relative_to (words (codes "none" ∷ codes "workspace-root" ∷ codes "target" ∷ []))
unfolding a_relative_to relative_to_names
mild_relative_to = mild_names relative_to_names relative_to_expected

pub mild_target_runner : MildAll a_target_runner (words (codes "ignore" ∷ codes "overrides-wrapper"
    ∷ codes "within-wrapper" ∷ codes "around-wrapper" ∷ []))
unfolding a_target_runner target_runner_names
mild_target_runner = mild_names target_runner_names target_runner_expected

-- ---- values with tables

pub mild_slow : (r : Bool) → MildAll slow_timeout (slow_form r slow_words)
mild_slow r =
    mild_or _ _ slow_fields _ _ _ mild_duration (λ es a. a) (λ es. tt)
    (refl, mild_duration, (refl, mild_positive, (refl, mild_duration, (refl, mild_slow_result, tt))))

pub mild_setup_timeout : MildAll a_setup_timeout (slow_form true (codes "fail" ∷ []))
mild_setup_timeout =
    mild_or _ _ setup_timeout_fields _ _ _ mild_duration (λ es a. a) (λ es. tt)
    (refl, mild_duration, (refl, mild_positive, (refl, mild_duration, (refl, mild_setup_result, tt))))

pub mild_leak : MildAll leak_timeout leak_timeout_form
mild_leak =
    mild_or _ _ leak_fields _ _ _ mild_duration (λ es a. a) (λ es. tt)
    (refl, mild_duration, (refl, mild_leak_result, tt))

-- whether or not it holds, what is reported is that a value is out of its range
if_out : (b : Bool) → IsMildIf (if b then Some out_of_range else None)
if_out true = tt
if_out false = tt

retry_sound : (es : Entries) → IsMildIf (retry_across es)
retry_sound es = if_out _

pub mild_retries : MildAll retry retries_form
mild_retries =
    mild_or _ _ retry_fields _ _ _ mild_count (λ es a. a) retry_sound (
      refl,
      mild_backoff,
      (
        refl,
        mild_count,
        (
          refl,
          mild_duration,
          (
            refl,
            mild_bool,
            (refl, mild_duration, tt),
          ),
        ),
      ),
    )

pub mild_fail_fast : MildAll a_max_fail fail_fast_form
unfolding a_max_fail
mild_fail_fast =
    mild_or _ _ max_fail_fields _ _ _ mild_bool (λ es a. a) (λ es. tt)
    (refl, mild_limit, (refl, mild_any _, tt))

pub mild_texts : MildAll (list_of a_text) texts_form
mild_texts = mild_list a_text some_text 0 mild_text

pub mild_override_junit : MildAll a_junit_override override_junit_form
unfolding a_junit_override
mild_override_junit =
    mild_struct junit_override_fields _
    (refl, mild_bool, (refl, mild_bool, (refl, mild_skipped, (refl, mild_flaky_status, tt))))

pub mild_profile_junit : MildAll a_junit profile_junit_form
unfolding a_junit
mild_profile_junit =
    mild_struct junit_fields _ (
      refl,
      mild_text,
      (
        refl,
        mild_text,
        (
          refl,
          mild_bool,
          (
            refl,
            mild_bool,
            (
              refl,
              mild_skipped,
              (refl, mild_flaky_status, tt),
            ),
          ),
        ),
      ),
    )

pub mild_override_bench : MildAll bench_override override_bench_form
mild_override_bench = mild_struct bench_override_fields _ (refl, mild_slow true, tt)

pub mild_profile_bench : (r : Bool) → MildAll bench (profile_bench_form r)
mild_profile_bench r = mild_struct bench_fields _ (refl, mild_slow r, (refl, mild_duration, tt))
