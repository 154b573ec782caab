-- The schema of a whole file: which keys each table knows, in the order in which they are read, and
-- what may be at each.
use Rattle.std.specs.Prelude.{None}
use Rattle.nextest_tree.specs.declared.key.Key.TheVariants as keys
use Rattle.nextest_tree.specs.Leaf.{a_text, any_key}
use Rattle.nextest_tree.specs.Schema.{Schema, any, fields, are_noted, items_of, Fields, no_more, append_fields, may, must, struct, list_of, map_of}
use Rattle.nextest_elements.specs.IdentifierReader.{identifier_cause, an_identifier}
use Rattle.nextest_elements.specs.Nanoseconds.{a_duration}
use Rattle.nextest_elements.specs.Bench.{bench, bench_override}
use Rattle.nextest_elements.specs.FlakyResult.{a_flaky_result}
use Rattle.nextest_elements.specs.Junit.{a_junit, a_junit_override}
use Rattle.nextest_elements.specs.LeakTimeout.{leak_timeout}
use Rattle.nextest_elements.specs.MaxFail.{a_max_fail}
use Rattle.nextest_elements.specs.RetryPolicy.{retry}
use Rattle.nextest_elements.specs.SlowTimeout.{slow_timeout}
use Rattle.nextest_elements.specs.StatusLevel.{a_status_level, a_final_status_level}
use Rattle.nextest_elements.specs.TestGroup.{a_test_group, group_config}
use Rattle.nextest_elements.specs.TestOutputDisplay.{a_test_output_display}
use Rattle.nextest_elements.specs.TestPriority.{a_priority}
use Rattle.nextest_elements.specs.TestThreads.{a_test_threads}
use Rattle.nextest_elements.specs.ThreadsRequired.{a_threads_required}
use Rattle.nextest_scripts.specs.SetupScript.{a_setup_script}
use Rattle.nextest_scripts.specs.WrapperScript.{a_wrapper_script}

-- the fields of a rule's platforms
abbrev pub platform_fields : Fields
platform_fields = may keys.Host a_text (may keys.Target a_text no_more)

-- the platforms of a rule: a text is the target's spec, a table has both
unfoldable pub a_platform : Schema
a_platform = fields are_noted a_text platform_fields (λ es. None)

-- which tests an override is for, their priority, and its default filter
abbrev pub override_head_fields : Fields
override_head_fields =
    may keys.Platform a_platform
    (may keys.Filter a_text
    (may keys.Priority a_priority
    (may keys.DefaultFilter a_text
    no_more)))

-- how an override has tests run
abbrev pub override_run_fields : Fields
override_run_fields =
    may keys.ThreadsRequired a_threads_required
    (may keys.RunExtraArgs (list_of a_text)
    (may keys.Retries retry
    (may keys.FlakyResult a_flaky_result
    (may keys.SlowTimeout slow_timeout
    (may keys.LeakTimeout leak_timeout
    no_more)))))

-- what an override has grouped, shown and reported
abbrev pub override_output_fields : Fields
override_output_fields =
    may keys.TestGroup a_test_group
    (may keys.SuccessOutput a_test_output_display
    (may keys.FailureOutput a_test_output_display
    (may keys.Junit a_junit_override
    (may keys.Bench bench_override
    no_more))))

-- the fields of an override
unfoldable pub override_fields : Fields
override_fields =
    append_fields override_head_fields
    (append_fields override_run_fields override_output_fields)

-- an override
unfoldable pub an_override : Schema
an_override = struct override_fields

-- an id of a script, or a list of ids
unfoldable pub script_ids : Schema
script_ids = items_of an_identifier an_identifier (λ ns. None)

-- the fields of a script rule
abbrev pub script_rule_fields : Fields
script_rule_fields =
    may keys.Platform a_platform
    (may keys.Filter a_text
    (may keys.Setup script_ids
    (may keys.ListWrapper an_identifier
    (may keys.RunWrapper an_identifier
    no_more))))

-- a script rule
unfoldable pub a_script_rule : Schema
a_script_rule = struct script_rule_fields

-- the default filter of a profile, before its other fields
abbrev pub profile_head_fields : Fields
profile_head_fields = may keys.DefaultFilter a_text no_more

-- how a profile has tests run
abbrev pub profile_run_fields : Fields
profile_run_fields =
    may keys.Retries retry
    (may keys.FlakyResult a_flaky_result
    (may keys.TestThreads a_test_threads
    (may keys.ThreadsRequired a_threads_required
    (may keys.RunExtraArgs (list_of a_text)
    no_more))))

-- what a profile has shown
abbrev pub profile_output_fields : Fields
profile_output_fields =
    may keys.StatusLevel a_status_level
    (may keys.FinalStatusLevel a_final_status_level
    (may keys.FailureOutput a_test_output_display
    (may keys.SuccessOutput a_test_output_display
    no_more)))

-- when a profile has a run or a test ended
abbrev pub profile_end_fields : Fields
profile_end_fields =
    may keys.FailFast a_max_fail
    (may keys.SlowTimeout slow_timeout
    (may keys.GlobalTimeout a_duration
    (may keys.LeakTimeout leak_timeout
    no_more)))

-- the lists and tables of a profile, and what it inherits from; its archive is never looked into
abbrev pub profile_rest_fields : Fields
profile_rest_fields =
    may keys.Overrides (list_of an_override)
    (may keys.Scripts (list_of a_script_rule)
    (may keys.Junit a_junit
    (may keys.Archive any
    (may keys.Bench bench
    (may keys.Inherits a_text
    no_more)))))

-- the fields of a profile
unfoldable pub profile_fields : Fields
profile_fields =
    append_fields profile_head_fields
    (append_fields profile_run_fields
    (append_fields profile_output_fields
    (append_fields profile_end_fields
    profile_rest_fields)))

-- a profile
unfoldable pub a_profile : Schema
a_profile = struct profile_fields

-- the field of the store: its directory must be there
abbrev pub store_fields : Fields
store_fields = must keys.Dir a_text no_more

-- the store
unfoldable pub a_store : Schema
a_store = struct store_fields

-- the scripts under `scripts`, by their ids
abbrev pub scripts_fields : Fields
scripts_fields =
    may keys.Setup (map_of identifier_cause a_setup_script)
    (may keys.Wrapper (map_of identifier_cause a_wrapper_script)
    no_more)

-- the table `scripts`
unfoldable pub a_scripts_table : Schema
a_scripts_table = struct scripts_fields

-- the fields of a whole file: the store and the profiles must be there; two are never looked into
abbrev pub file_fields : Fields
file_fields =
    must keys.Store a_store
    (may keys.NextestVersion any
    (may keys.Experimental any
    (may keys.TestGroups (map_of identifier_cause group_config)
    (may keys.Script (map_of identifier_cause a_setup_script)
    (may keys.Scripts a_scripts_table
    (must keys.Profile (map_of any_key a_profile)
    no_more))))))

-- a whole file
unfoldable pub a_file : Schema
a_file = struct file_fields
