-- What the table of defaults is, by computation.
use Rattle.std.proofs.Common.{◌≡◌, [], refl, rules}
use Rattle.nextest_tree.specs.Key.{key_text}
use Rattle.nextest_tree.specs.Node.{IsSorted}
use Rattle.nextest_tree.specs.Leaf.{a_text, a_bool}
use Rattle.nextest_tree.specs.Schema.{faults, unknown, field_faults, field_unknown}
use Rattle.nextest_elements.specs.Duration.{duration_units}
use Rattle.nextest_elements.specs.DurationFunction.{unit_size, runs, without_spaces, words_of, sum_of, some_sum_of, duration_of}
use Rattle.nextest_elements.specs.Nanoseconds.{a_duration}
use Rattle.nextest_elements.specs.FlakyResult.{flaky_result_names, a_flaky_result}
use Rattle.nextest_elements.specs.Junit.{a_junit, report_skip_policy_names, a_report_skip_policy, junit_flaky_fail_status_names, a_junit_flaky_fail_status}
use Rattle.nextest_elements.specs.MaxFail.{a_max_fail}
use Rattle.nextest_elements.specs.Positive.{a_positive}
use Rattle.nextest_elements.specs.RetryPolicy.{a_count}
use Rattle.nextest_elements.specs.SlowTimeout.{slow_result_text, slow_result_names, a_slow_result}
use Rattle.nextest_elements.specs.StatusLevel.{status_level_names, a_status_level, final_status_level_names, a_final_status_level}
use Rattle.nextest_elements.specs.TestOutputDisplay.{test_output_display_names, a_test_output_display}
use Rattle.nextest_elements.specs.TestThreads.{test_threads_names, a_test_threads}
use Rattle.nextest_elements.specs.ThreadsRequired.{threads_required_names, a_threads_required}
use Rattle.nextest_tables.specs.Defaults.{store_default, bench_default, junit_default, slow_default, profile_default, profiles_default, defaults}
use Rattle.nextest_tables.specs.Tables.{a_store, profile_fields, a_profile, a_file}

pub no_faults : faults a_file [] defaults ≡ []
unfolding key_text field_faults a_text a_bool duration_units unit_size runs without_spaces words_of sum_of
    some_sum_of duration_of a_duration flaky_result_names a_flaky_result a_junit report_skip_policy_names
    a_report_skip_policy junit_flaky_fail_status_names a_junit_flaky_fail_status a_max_fail a_positive a_count
    slow_result_text slow_result_names a_slow_result status_level_names a_status_level
    final_status_level_names a_final_status_level test_output_display_names a_test_output_display
    test_threads_names a_test_threads threads_required_names a_threads_required store_default bench_default
    junit_default slow_default profile_default profiles_default defaults a_store profile_fields a_profile a_file
no_faults = refl

pub nothing_unknown : unknown a_file [] defaults ≡ []
unfolding key_text field_unknown a_text a_bool a_duration a_flaky_result a_junit a_report_skip_policy
    a_junit_flaky_fail_status a_max_fail a_positive a_count a_slow_result a_status_level a_final_status_level
    a_test_output_display a_test_threads a_threads_required store_default bench_default junit_default
    slow_default profile_default profiles_default defaults a_store profile_fields a_profile a_file
nothing_unknown = refl

pub sorted : IsSorted defaults
unfolding key_text store_default bench_default junit_default slow_default profile_default profiles_default defaults
sorted = search rules
