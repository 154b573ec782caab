-- The forms of values know all keys of their tables.
use Rattle.std.proofs.Common.{ℕ, List, Bool, true, refl}
use Rattle.nextest_tree.specs.Leaf.{a_text, a_bool}
use Rattle.nextest_tree.specs.Schema.{any, list_of}
use Rattle.nextest_elements.specs.IdentifierReader.{an_identifier}
use Rattle.nextest_elements.specs.Nanoseconds.{a_duration}
use Rattle.nextest_elements.specs.Bench.{bench_fields, bench, bench_override_fields, bench_override}
use Rattle.nextest_elements.specs.FlakyResult.{a_flaky_result}
use Rattle.nextest_elements.specs.Junit.{a_report_skip_policy, a_junit_flaky_fail_status, junit_override_fields, a_junit_override, junit_fields, a_junit}
use Rattle.nextest_elements.specs.LeakTimeout.{a_leak_result, leak_fields, leak_timeout}
use Rattle.nextest_elements.specs.MaxFail.{a_limit, max_fail_fields, a_max_fail}
use Rattle.nextest_elements.specs.Positive.{a_positive}
use Rattle.nextest_elements.specs.RetryPolicy.{a_count, a_backoff, retry_fields, retry}
use Rattle.nextest_elements.specs.SlowTimeout.{a_slow_result, slow_fields, slow_timeout}
use Rattle.nextest_elements.specs.StatusLevel.{a_status_level, a_final_status_level}
use Rattle.nextest_elements.specs.TestGroup.{a_test_group}
use Rattle.nextest_elements.specs.TestOutputDisplay.{a_test_output_display}
use Rattle.nextest_elements.specs.TestPriority.{a_priority}
use Rattle.nextest_elements.specs.TestThreads.{a_test_threads}
use Rattle.nextest_elements.specs.ThreadsRequired.{a_threads_required}
use Rattle.nextest_scripts.specs.Command.{a_relative_to}
use Rattle.nextest_scripts.specs.SetupScript.{a_setup_result, setup_timeout_fields, a_setup_timeout}
use Rattle.nextest_scripts.specs.WrapperScript.{a_target_runner}
use Rattle.nextest_shape.specs.FileForm.{slow_form, leak_timeout_form, retries_form, fail_fast_form, override_junit_form, profile_junit_form, override_bench_form, profile_bench_form, some_text, texts_form}
use Rattle.nextest_shape.specs.Form.{Form}
use Rattle.nextest_shape.proofs.Known.{KnowsAll, knows_leaf, knows_struct, knows_or, knows_list}

-- ---- values without keys

pub known_any : (f : Form) → KnowsAll any f
known_any f = knows_leaf any f (λ q n. refl)

pub known_text : (f : Form) → KnowsAll a_text f
unfolding a_text
known_text f = knows_leaf _ f (λ q n. refl)

pub known_bool : (f : Form) → KnowsAll a_bool f
unfolding a_bool
known_bool f = knows_leaf _ f (λ q n. refl)

pub known_duration : (f : Form) → KnowsAll a_duration f
unfolding a_duration
known_duration f = knows_leaf _ f (λ q n. refl)

pub known_identifier : (f : Form) → KnowsAll an_identifier f
unfolding an_identifier
known_identifier f = knows_leaf _ f (λ q n. refl)

pub known_positive : (f : Form) → KnowsAll a_positive f
unfolding a_positive
known_positive f = knows_leaf _ f (λ q n. refl)

pub known_count : (f : Form) → KnowsAll a_count f
unfolding a_count
known_count f = knows_leaf _ f (λ q n. refl)

pub known_priority : (f : Form) → KnowsAll a_priority f
unfolding a_priority
known_priority f = knows_leaf _ f (λ q n. refl)

pub known_test_threads : (f : Form) → KnowsAll a_test_threads f
unfolding a_test_threads
known_test_threads f = knows_leaf _ f (λ q n. refl)

pub known_threads_required : (f : Form) → KnowsAll a_threads_required f
unfolding a_threads_required
known_threads_required f = knows_leaf _ f (λ q n. refl)

pub known_limit : (f : Form) → KnowsAll a_limit f
unfolding a_limit
known_limit f = knows_leaf _ f (λ q n. refl)

pub known_test_group : (f : Form) → KnowsAll a_test_group f
unfolding a_test_group
known_test_group f = knows_leaf _ f (λ q n. refl)

pub known_flaky_result : (f : Form) → KnowsAll a_flaky_result f
unfolding a_flaky_result
known_flaky_result f = knows_leaf _ f (λ q n. refl)

pub known_status_level : (f : Form) → KnowsAll a_status_level f
unfolding a_status_level
known_status_level f = knows_leaf _ f (λ q n. refl)

pub known_final_status_level : (f : Form) → KnowsAll a_final_status_level f
unfolding a_final_status_level
known_final_status_level f = knows_leaf _ f (λ q n. refl)

pub known_output : (f : Form) → KnowsAll a_test_output_display f
unfolding a_test_output_display
known_output f = knows_leaf _ f (λ q n. refl)

pub known_slow_result : (f : Form) → KnowsAll a_slow_result f
unfolding a_slow_result
known_slow_result f = knows_leaf _ f (λ q n. refl)

pub known_setup_result : (f : Form) → KnowsAll a_setup_result f
unfolding a_setup_result
known_setup_result f = knows_leaf _ f (λ q n. refl)

pub known_leak_result : (f : Form) → KnowsAll a_leak_result f
unfolding a_leak_result
known_leak_result f = knows_leaf _ f (λ q n. refl)

pub known_backoff : (f : Form) → KnowsAll a_backoff f
unfolding a_backoff
known_backoff f = knows_leaf _ f (λ q n. refl)

pub known_skipped : (f : Form) → KnowsAll a_report_skip_policy f
unfolding a_report_skip_policy
known_skipped f = knows_leaf _ f (λ q n. refl)

pub known_flaky_status : (f : Form) → KnowsAll a_junit_flaky_fail_status f
unfolding a_junit_flaky_fail_status
known_flaky_status f = knows_leaf _ f (λ q n. refl)

pub known_relative_to : (f : Form) → KnowsAll a_relative_to f
unfolding a_relative_to
known_relative_to f = knows_leaf _ f (λ q n. refl)

pub known_target_runner : (f : Form) → KnowsAll a_target_runner f
unfolding a_target_runner
known_target_runner f = knows_leaf _ f (λ q n. refl)

-- ---- values with tables

pub known_slow : (r : Bool) (results : List (List ℕ)) → KnowsAll slow_timeout (slow_form r results)
known_slow r results =
    knows_or _ _ slow_fields _ _ _ (known_duration _) (λ es a. a)
    (refl, known_duration _, (refl, known_positive _, (refl, known_duration _, (refl, known_slow_result _, tt))))

pub known_setup_timeout : (r : Bool) (results : List (List ℕ)) → KnowsAll a_setup_timeout (slow_form r results)
known_setup_timeout r results =
    knows_or _ _ setup_timeout_fields _ _ _ (known_duration _) (λ es a. a)
    (refl, known_duration _, (refl, known_positive _, (refl, known_duration _, (refl, known_setup_result _, tt))))

pub known_leak : KnowsAll leak_timeout leak_timeout_form
known_leak =
    knows_or _ _ leak_fields _ _ _ (known_duration _) (λ es a. a)
    (refl, known_duration _, (refl, known_leak_result _, tt))

pub known_retries : KnowsAll retry retries_form
known_retries =
    knows_or _ _ retry_fields _ _ _ (known_count _) (λ es a. a) (
      refl,
      known_backoff _,
      (
        refl,
        known_count _,
        (
          refl,
          known_duration _,
          (
            refl,
            known_bool _,
            (refl, known_duration _, tt),
          ),
        ),
      ),
    )

pub known_fail_fast : KnowsAll a_max_fail fail_fast_form
unfolding a_max_fail
known_fail_fast =
    knows_or _ _ max_fail_fields _ _ _ (known_bool _) (λ es a. a)
    (refl, known_limit _, (refl, known_any _, tt))

pub known_texts : KnowsAll (list_of a_text) texts_form
known_texts = knows_list a_text some_text 0 (known_text _)

pub known_override_junit : KnowsAll a_junit_override override_junit_form
unfolding a_junit_override
known_override_junit =
    knows_struct junit_override_fields _
    (refl, known_bool _, (refl, known_bool _, (refl, known_skipped _, (refl, known_flaky_status _, tt))))

pub known_profile_junit : KnowsAll a_junit profile_junit_form
unfolding a_junit
known_profile_junit =
    knows_struct junit_fields _ (
      refl,
      known_text _,
      (
        refl,
        known_text _,
        (
          refl,
          known_bool _,
          (
            refl,
            known_bool _,
            (
              refl,
              known_skipped _,
              (refl, known_flaky_status _, tt),
            ),
          ),
        ),
      ),
    )

pub known_override_bench : KnowsAll bench_override override_bench_form
known_override_bench = knows_struct bench_override_fields _ (refl, known_slow true _, tt)

pub known_profile_bench : (r : Bool) → KnowsAll bench (profile_bench_form r)
known_profile_bench r = knows_struct bench_fields _ (refl, known_slow r _, (refl, known_duration _, tt))
