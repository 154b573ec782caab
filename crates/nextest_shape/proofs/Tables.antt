-- The forms of the tables of a file fit their schemas.
use Rattle.std.proofs.Common.{[], ◌∷◌, true, codes, refl}
use Rattle.nextest_tree.specs.Leaf.{a_text}
use Rattle.nextest_tree.specs.Schema.{Schema, list_of, map_of}
use Rattle.nextest_documents.proofs.Laying.{equal_text}
use Rattle.nextest_elements.specs.IdentifierReader.{identifier_cause}
use Rattle.nextest_elements.specs.Bench.{bench_fields, bench, bench_override_fields, bench_override}
use Rattle.nextest_elements.specs.FlakyResult.{flaky_result_names, flaky_result_expected, a_flaky_result}
use Rattle.nextest_elements.specs.Junit.{report_skip_policy_names, report_skip_policy_expected, a_report_skip_policy, junit_flaky_fail_status_names, junit_flaky_fail_status_expected, a_junit_flaky_fail_status, junit_override_fields, a_junit_override, junit_fields, a_junit}
use Rattle.nextest_elements.specs.LeakTimeout.{leak_result_text, leak_result_names, leak_result_expected, a_leak_result, leak_fields, leak_timeout}
use Rattle.nextest_elements.specs.MaxFail.{max_fail_fields, a_max_fail}
use Rattle.nextest_elements.specs.RetryPolicy.{backoff_names, backoff_expected, a_backoff, retry_fields, retry}
use Rattle.nextest_elements.specs.SlowTimeout.{slow_result_text, slow_result_names, slow_result_expected, a_slow_result, slow_fields, slow_timeout}
use Rattle.nextest_elements.specs.StatusLevel.{status_level_names, status_level_expected, a_status_level, final_status_level_names, final_status_level_expected, a_final_status_level}
use Rattle.nextest_elements.specs.TestGroup.{group_fields, group_config}
use Rattle.nextest_elements.specs.TestOutputDisplay.{test_output_display_names, test_output_display_expected, a_test_output_display}
use Rattle.nextest_scripts.specs.Command.{relative_to_names, relative_to_expected, a_relative_to, command_fields, a_command}
use Rattle.nextest_scripts.specs.EnvMap.{env_key_cause, an_env_map}
use Rattle.nextest_scripts.specs.SetupScript.{setup_result_names, setup_result_expected, a_setup_result, setup_timeout_fields, a_setup_timeout, setup_junit_fields, a_setup_junit, setup_script_fields, a_setup_script}
use Rattle.nextest_scripts.specs.WrapperScript.{target_runner_names, target_runner_expected, a_target_runner, wrapper_script_fields, a_wrapper_script}
use Rattle.nextest_tables.specs.Tables.{platform_fields, a_platform, override_fields, an_override, script_ids, script_rule_fields, a_script_rule, scripts_fields, a_scripts_table}
use Rattle.nextest_shape.specs.declared.shape.Pattern.TheVariants as patterns
use Rattle.nextest_shape.specs.FileForm.{slow_form, slow_words, stored_fields, slow_timeout_form, leak_timeout_form, retries_form, flaky_result_form, fail_fast_form, status_level_form, final_status_level_form, output_form, override_junit_form, profile_junit_form, override_bench_form, profile_bench_form, platform_form, override_form, script_rule_form, group_form, command_form, env_form, setup_script_form, wrapper_script_form, by_identifier, scripts_form, some_text, words, identifier_form, one_or_other, texts_form}
use Rattle.nextest_shape.specs.Form.{Form, no_fields, an_array, a_table, of_pattern}
use Rattle.nextest_shape.proofs.Fits.{Fits, fits_struct, fits_or, fits_any, fits_items, fits_map, fits_list}
use Rattle.nextest_shape.proofs.Leaves.{fits_text, fits_bool, fits_names, fits_positive, fits_count, fits_priority, fits_test_threads, fits_threads_required, fits_limit, fits_duration, fits_identifier, fits_test_group, identifier_named, env_named, fits_command_line}

-- ---- words

pub fits_flaky_result : Fits a_flaky_result flaky_result_form
unfolding a_flaky_result flaky_result_names
fits_flaky_result = fits_names flaky_result_names flaky_result_expected

pub fits_status_level : Fits a_status_level status_level_form
unfolding a_status_level status_level_names
fits_status_level = fits_names status_level_names status_level_expected

pub fits_final_status_level : Fits a_final_status_level final_status_level_form
unfolding a_final_status_level final_status_level_names
fits_final_status_level = fits_names final_status_level_names final_status_level_expected

pub fits_output : Fits a_test_output_display output_form
unfolding a_test_output_display test_output_display_names
fits_output = fits_names test_output_display_names test_output_display_expected

pub fits_slow_result : Fits a_slow_result (words slow_words)
unfolding a_slow_result slow_result_text slow_result_names
fits_slow_result = fits_names slow_result_names slow_result_expected

fits_setup_result : Fits a_setup_result (words (codes "fail" ∷ []))
unfolding a_setup_result setup_result_names
fits_setup_result = fits_names setup_result_names setup_result_expected

fits_leak_result : Fits a_leak_result (words (codes "pass" ∷ codes "fail" ∷ []))
unfolding a_leak_result leak_result_text leak_result_names
fits_leak_result = fits_names leak_result_names leak_result_expected

fits_backoff : Fits a_backoff (words (codes "fixed" ∷ codes "exponential" ∷ []))
unfolding a_backoff backoff_names
fits_backoff = fits_names backoff_names backoff_expected

pub fits_skipped : Fits a_report_skip_policy (words (codes "none" ∷ codes "all" ∷ []))
unfolding a_report_skip_policy report_skip_policy_names
fits_skipped = fits_names report_skip_policy_names report_skip_policy_expected

pub fits_flaky_status : Fits a_junit_flaky_fail_status (words (codes "failure" ∷ codes "success" ∷ []))
unfolding a_junit_flaky_fail_status junit_flaky_fail_status_names
fits_flaky_status = fits_names junit_flaky_fail_status_names junit_flaky_fail_status_expected

fits_relative_to : Fits a_relative_to (words (codes "none" ∷ codes "workspace-root" ∷ codes "target" ∷ []))
unfolding a_relative_to relative_to_names
fits_relative_to = fits_names relative_to_names relative_to_expected

fits_target_runner : Fits a_target_runner (words (codes "ignore" ∷ codes "overrides-wrapper"
    ∷ codes "within-wrapper" ∷ codes "around-wrapper" ∷ []))
unfolding a_target_runner target_runner_names
fits_target_runner = fits_names target_runner_names target_runner_expected

-- ---- values

pub fits_slow : Fits slow_timeout slow_timeout_form
fits_slow =
    fits_or _ _ slow_fields _ _ _ fits_duration (
      refl,
      λ es. refl,
      fits_duration,
      (
        refl,
        tt,
        fits_positive,
        (
          refl,
          tt,
          fits_duration,
          (refl, tt, fits_slow_result, tt),
        ),
      ),
    )

fits_setup_timeout : Fits a_setup_timeout (slow_form true (codes "fail" ∷ []))
fits_setup_timeout =
    fits_or _ _ setup_timeout_fields _ _ _ fits_duration (
      refl,
      λ es. refl,
      fits_duration,
      (
        refl,
        tt,
        fits_positive,
        (
          refl,
          tt,
          fits_duration,
          (refl, tt, fits_setup_result, tt),
        ),
      ),
    )

pub fits_leak : Fits leak_timeout leak_timeout_form
fits_leak =
    fits_or _ _ leak_fields _ _ _ fits_duration
    (refl, λ es. refl, fits_duration, (refl, tt, fits_leak_result, tt))

pub fits_retries : Fits retry retries_form
fits_retries =
    fits_or _ _ retry_fields _ _ _ fits_count (
      refl,
      λ es. refl,
      fits_backoff,
      (
        refl,
        λ es. refl,
        fits_count,
        (
          refl,
          tt,
          fits_duration,
          (
            refl,
            tt,
            fits_bool,
            (refl, tt, fits_duration, tt),
          ),
        ),
      ),
    )

pub fits_fail_fast : Fits a_max_fail fail_fast_form
unfolding a_max_fail
fits_fail_fast =
    fits_or _ _ max_fail_fields _ _ _ fits_bool
    (refl, λ es. refl, fits_limit, (refl, tt, fits_any, tt))

pub fits_texts : Fits (list_of a_text) texts_form
fits_texts = fits_list a_text some_text fits_text

pub fits_override_junit : Fits a_junit_override override_junit_form
unfolding a_junit_override
fits_override_junit =
    fits_struct junit_override_fields _ (
      refl,
      tt,
      fits_bool,
      (
        refl,
        tt,
        fits_bool,
        (
          refl,
          tt,
          fits_skipped,
          (refl, tt, fits_flaky_status, tt),
        ),
      ),
    )

pub fits_profile_junit : Fits a_junit profile_junit_form
unfolding a_junit
fits_profile_junit =
    fits_struct junit_fields _ (
      refl,
      tt,
      fits_text,
      (
        refl,
        tt,
        fits_text,
        (
          refl,
          tt,
          fits_bool,
          (
            refl,
            tt,
            fits_bool,
            (
              refl,
              tt,
              fits_skipped,
              (refl, tt, fits_flaky_status, tt),
            ),
          ),
        ),
      ),
    )

fits_override_bench : Fits bench_override override_bench_form
fits_override_bench = fits_struct bench_override_fields _ (refl, tt, fits_slow, tt)

pub fits_profile_bench : Fits bench (profile_bench_form true)
fits_profile_bench = fits_struct bench_fields _ (refl, tt, fits_slow, (refl, tt, fits_duration, tt))

-- ---- rules

fits_platform : Fits a_platform platform_form
unfolding a_platform
fits_platform =
    fits_or _ _ platform_fields _ _ _ fits_text (refl, tt, fits_text, (refl, tt, fits_text, tt))

pub fits_override : Fits an_override override_form
unfolding an_override override_fields override_form
fits_override =
    fits_struct override_fields _ (
      refl,
      tt,
      fits_platform,
      (
        refl,
        tt,
        fits_text,
        (
          refl,
          tt,
          fits_priority,
          (
            refl,
            tt,
            fits_text,
            (
              refl,
              tt,
              fits_threads_required,
              (
                refl,
                tt,
                fits_texts,
                (
                  refl,
                  tt,
                  fits_retries,
                  (
                    refl,
                    tt,
                    fits_flaky_result,
                    (
                      refl,
                      tt,
                      fits_slow,
                      (
                        refl,
                        tt,
                        fits_leak,
                        (
                          refl,
                          tt,
                          fits_test_group,
                          (
                            refl,
                            tt,
                            fits_output,
                            (
                              refl,
                              tt,
                              fits_output,
                              (
                                refl,
                                tt,
                                fits_override_junit,
                                (refl, tt, fits_override_bench, tt),
                              ),
                            ),
                          ),
                        ),
                      ),
                    ),
                  ),
                ),
              ),
            ),
          ),
        ),
      ),
    )

fits_script_ids : Fits script_ids (one_or_other identifier_form (an_array 0 identifier_form))
unfolding script_ids
fits_script_ids = fits_items _ _ identifier_form identifier_form fits_identifier fits_identifier

pub fits_script_rule : Fits a_script_rule script_rule_form
unfolding a_script_rule script_rule_form
fits_script_rule =
    fits_struct script_rule_fields _ (
      refl,
      tt,
      fits_platform,
      (
        refl,
        tt,
        fits_text,
        (
          refl,
          tt,
          fits_script_ids,
          (
            refl,
            tt,
            fits_identifier,
            (refl, tt, fits_identifier, tt),
          ),
        ),
      ),
    )

-- ---- groups and scripts

fits_group : Fits group_config group_form
fits_group = fits_struct group_fields _ (refl, λ es. refl, fits_test_threads, tt)

fits_env : Fits an_env_map env_form
unfolding an_env_map
fits_env = fits_map env_key_cause (of_pattern patterns.EnvironmentKey) a_text some_text equal_text env_named fits_text

fits_command : Fits a_command command_form
unfolding a_command command_form
fits_command =
    fits_or _ _ command_fields _ _ _ fits_command_line (
      refl,
      λ es. refl,
      fits_command_line,
      (
        refl,
        tt,
        fits_env,
        (refl, tt, fits_relative_to, tt),
      ),
    )

fits_setup_junit : Fits a_setup_junit (a_table (stored_fields no_fields))
fits_setup_junit = fits_struct setup_junit_fields _ (refl, tt, fits_bool, (refl, tt, fits_bool, tt))

fits_setup_script : Fits a_setup_script setup_script_form
unfolding a_setup_script setup_script_form
fits_setup_script =
    fits_struct setup_script_fields _ (
      refl,
      λ es. refl,
      fits_command,
      (
        refl,
        tt,
        fits_setup_timeout,
        (
          refl,
          tt,
          fits_leak,
          (
            refl,
            tt,
            fits_bool,
            (
              refl,
              tt,
              fits_bool,
              (refl, tt, fits_setup_junit, tt),
            ),
          ),
        ),
      ),
    )

fits_wrapper_script : Fits a_wrapper_script wrapper_script_form
unfolding a_wrapper_script wrapper_script_form
fits_wrapper_script =
    fits_struct wrapper_script_fields _ (refl, λ es. refl, fits_command, (refl, tt, fits_target_runner, tt))

by_id : (s : Schema) (f : Form) → Fits s f → Fits (map_of identifier_cause s) (by_identifier f)
by_id s f fit = fits_map identifier_cause (of_pattern patterns.Identifier) s f equal_text identifier_named fit

pub fits_groups : Fits (map_of identifier_cause group_config) (by_identifier group_form)
fits_groups = by_id group_config group_form fits_group

pub fits_setup_scripts : Fits (map_of identifier_cause a_setup_script) (by_identifier setup_script_form)
fits_setup_scripts = by_id a_setup_script setup_script_form fits_setup_script

pub fits_scripts : Fits a_scripts_table scripts_form
unfolding a_scripts_table
fits_scripts =
    fits_struct scripts_fields _ (
      refl,
      tt,
      fits_setup_scripts,
      (refl, tt, by_id a_wrapper_script wrapper_script_form fits_wrapper_script, tt),
    )
