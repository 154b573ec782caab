-- The form of a whole file, by its tables.
use Rattle.std.specs.Prelude.{ℕ, pos, negsuc, List, [], ◌∷◌, Bool, true, false, Some, None, codes}
use Rattle.nextest_tree.specs.declared.key.Key.{Key}
use Rattle.nextest_tree.specs.declared.key.Key.TheVariants as keys
use Rattle.nextest_shape.specs.declared.shape.Pattern.TheVariants as patterns
use Rattle.nextest_shape.specs.Form.{any_text, one_of, of_pattern, Form, anything, a_truth, a_number, a_text, an_array, a_table, a_map, either, FieldForms, no_fields, a_field, no_forms, or_form, and_fields}

-- a field that a file may leave out, before other fields
abbrev pub may : Key → Form → FieldForms → FieldForms
may k f fs = a_field k false f fs

-- a field that a file has to write, before other fields
abbrev pub must : Key → Form → FieldForms → FieldForms
must k f fs = a_field k true f fs

-- any text
abbrev pub some_text : Form
some_text = a_text any_text

-- one of these words
abbrev pub words : List (List ℕ) → Form
words names = a_text (one_of names)

-- one of two forms
abbrev pub one_or_other : Form → Form → Form
one_or_other f g = either (or_form f (or_form g no_forms))

-- a number from 1
abbrev pub positive_form : Form
positive_form = a_number (Some (pos 1)) None

-- a duration
abbrev pub duration_form : Form
duration_form = a_text (of_pattern patterns.Duration)

-- an identifier
abbrev pub identifier_form : Form
identifier_form = a_text (of_pattern patterns.Identifier)

-- texts
abbrev pub texts_form : Form
texts_form = an_array 0 some_text

-- the period, which a table of a timeout has to have where nothing below it has one
abbrev pub period_field : (is_required : Bool) → FieldForms → FieldForms
period_field is_required fs = a_field keys.Period is_required duration_form fs

-- when a test counts as slow: a duration, or a table, with the words for a test that is ended
abbrev pub slow_form : (is_required : Bool) → List (List ℕ) → Form
slow_form is_required results =
    one_or_other duration_form
    (a_table (period_field is_required
    (may keys.TerminateAfter positive_form
    (may keys.GracePeriod duration_form
    (may keys.OnTimeout (words results)
    no_fields)))))

-- the words for a test that is ended
abbrev pub slow_words : List (List ℕ)
slow_words = codes "fail" ∷ codes "pass" ∷ []

-- when a test of a file's own tables counts as slow
abbrev pub slow_timeout_form : Form
slow_timeout_form = slow_form true slow_words

-- how long what a test started may outlive it
abbrev pub leak_timeout_form : Form
leak_timeout_form =
    one_or_other duration_form
    (a_table (period_field true
    (may keys.Result (words (codes "pass" ∷ codes "fail" ∷ []))
    no_fields)))

-- a number of tries
abbrev pub count_form : Form
count_form = a_number (Some (pos 0)) (Some (pos 4294967295))

-- how often a test is tried again
abbrev pub retries_form : Form
retries_form =
    one_or_other count_form
    (a_table (must keys.Backoff (words (codes "fixed" ∷ codes "exponential" ∷ []))
    (must keys.Count count_form
    (may keys.Delay duration_form
    (may keys.Jitter a_truth
    (may keys.MaxDelay duration_form
    no_fields))))))

-- the result of a flaky test
abbrev pub flaky_result_form : Form
flaky_result_form = words (codes "pass" ∷ codes "fail" ∷ [])

-- how many tests run at a time: a number but zero, or a word
abbrev pub test_threads_form : Form
test_threads_form =
    either (or_form (a_number None (Some (negsuc 0)))
    (or_form positive_form
    (or_form (words (codes "num-cpus" ∷ []))
    no_forms)))

-- how many threads a test takes up
abbrev pub threads_required_form : Form
threads_required_form =
    one_or_other positive_form (words (codes "num-cpus" ∷ codes "num-test-threads" ∷ []))

-- after how many failures a run ends
abbrev pub fail_fast_form : Form
fail_fast_form =
    one_or_other a_truth
    (a_table (must keys.MaxFail (one_or_other positive_form (words (codes "all" ∷ [])))
    (may keys.Terminate anything
    no_fields)))

-- which tests are shown while they run
abbrev pub status_level_form : Form
status_level_form =
    words (codes "none" ∷ codes "fail" ∷ codes "retry" ∷ codes "slow" ∷ codes "leak"
    ∷ codes "pass" ∷ codes "skip" ∷ codes "all" ∷ [])

-- which tests are shown at the end of a run
abbrev pub final_status_level_form : Form
final_status_level_form =
    words (codes "none" ∷ codes "fail" ∷ codes "flaky" ∷ codes "slow" ∷ codes "skip"
    ∷ codes "leak" ∷ codes "pass" ∷ codes "all" ∷ codes "retry" ∷ [])

-- when the output of a test is shown
abbrev pub output_form : Form
output_form =
    words (codes "immediate" ∷ codes "immediate-final" ∷ codes "final" ∷ codes "never" ∷ [])

-- the outputs that a report keeps, before other fields
abbrev pub stored_fields : FieldForms → FieldForms
stored_fields fs = may keys.StoreSuccessOutput a_truth (may keys.StoreFailureOutput a_truth fs)

-- the fields of a report that profiles and overrides share
abbrev pub report_fields : FieldForms
report_fields =
    stored_fields
    (may keys.ReportSkipped (words (codes "none" ∷ codes "all" ∷ []))
    (may keys.FlakyFailStatus (words (codes "failure" ∷ codes "success" ∷ []))
    no_fields))

-- the report of an override
abbrev pub override_junit_form : Form
override_junit_form = a_table report_fields

-- the report of a profile
abbrev pub profile_junit_form : Form
profile_junit_form = a_table (may keys.Path some_text (may keys.ReportName some_text report_fields))

-- the timeouts of benchmarks of an override
abbrev pub override_bench_form : Form
override_bench_form = a_table (may keys.SlowTimeout slow_timeout_form no_fields)

-- the timeouts of benchmarks of a profile
abbrev pub profile_bench_form : (is_required : Bool) → Form
profile_bench_form is_required =
    a_table (may keys.SlowTimeout (slow_form is_required slow_words)
    (may keys.GlobalTimeout duration_form
    no_fields))

-- the platforms of a rule
abbrev pub platform_form : Form
platform_form =
    one_or_other some_text
    (a_table (may keys.Host some_text (may keys.Target some_text no_fields)))

-- which tests an override is for, their priority, and its default filter
abbrev pub override_head_forms : FieldForms
override_head_forms =
    may keys.Platform platform_form
    (may keys.Filter some_text
    (may keys.Priority (a_number (Some (negsuc 99)) (Some (pos 100)))
    (may keys.DefaultFilter some_text
    no_fields)))

-- how an override has tests run
abbrev pub override_run_forms : FieldForms
override_run_forms =
    may keys.ThreadsRequired threads_required_form
    (may keys.RunExtraArgs texts_form
    (may keys.Retries retries_form
    (may keys.FlakyResult flaky_result_form
    (may keys.SlowTimeout slow_timeout_form
    (may keys.LeakTimeout leak_timeout_form
    no_fields)))))

-- what an override has grouped, shown and reported
abbrev pub override_output_forms : FieldForms
override_output_forms =
    may keys.TestGroup (a_text (of_pattern patterns.TestGroup))
    (may keys.SuccessOutput output_form
    (may keys.FailureOutput output_form
    (may keys.Junit override_junit_form
    (may keys.Bench override_bench_form
    no_fields))))

-- an override
unfoldable pub override_form : Form
override_form =
    a_table (and_fields override_head_forms (and_fields override_run_forms override_output_forms))

-- a script rule
unfoldable pub script_rule_form : Form
script_rule_form =
    a_table (may keys.Platform platform_form
    (may keys.Filter some_text
    (may keys.Setup (one_or_other identifier_form (an_array 0 identifier_form))
    (may keys.ListWrapper identifier_form
    (may keys.RunWrapper identifier_form
    no_fields)))))

-- how a profile has tests run
abbrev pub profile_run_forms : FieldForms
profile_run_forms =
    may keys.DefaultFilter some_text
    (may keys.Retries retries_form
    (may keys.FlakyResult flaky_result_form
    (may keys.TestThreads test_threads_form
    (may keys.ThreadsRequired threads_required_form
    (may keys.RunExtraArgs texts_form
    no_fields)))))

-- what a profile has shown
abbrev pub profile_output_forms : FieldForms
profile_output_forms =
    may keys.StatusLevel status_level_form
    (may keys.FinalStatusLevel final_status_level_form
    (may keys.FailureOutput output_form
    (may keys.SuccessOutput output_form
    no_fields)))

-- when a profile has a run or a test ended
abbrev pub profile_end_forms : (is_required : Bool) → FieldForms
profile_end_forms is_required =
    may keys.FailFast fail_fast_form
    (may keys.SlowTimeout (slow_form is_required slow_words)
    (may keys.GlobalTimeout duration_form
    (may keys.LeakTimeout leak_timeout_form
    no_fields)))

-- the lists and tables of a profile, and what it inherits from
abbrev pub profile_rest_forms : (is_required : Bool) → FieldForms
profile_rest_forms is_required =
    may keys.Overrides (an_array 0 override_form)
    (may keys.Scripts (an_array 0 script_rule_form)
    (may keys.Junit profile_junit_form
    (may keys.Archive anything
    (may keys.Bench (profile_bench_form is_required)
    (may keys.Inherits some_text
    no_fields)))))

-- the fields of a profile
abbrev pub profile_forms : (is_required : Bool) → FieldForms
profile_forms is_required =
    and_fields profile_run_forms
    (and_fields profile_output_forms
    (and_fields (profile_end_forms is_required) (profile_rest_forms is_required)))

-- a profile, whose timeouts have to have a period unless the table of defaults has one there
unfoldable pub profile_form : (is_required : Bool) → Form
profile_form is_required = a_table (profile_forms is_required)

-- the profiles by name; the table of defaults has the periods of `default`
unfoldable pub profiles_form : Form
profiles_form =
    a_map any_text (may keys.Default (profile_form false) no_fields) (profile_form true)

-- a group of tests
abbrev pub group_form : Form
group_form = a_table (must keys.MaxThreads test_threads_form no_fields)

-- a line, or a list of texts with the program first
abbrev pub command_line_form : Form
command_line_form =
    one_or_other (a_text (of_pattern patterns.CommandLine)) (an_array 1 some_text)

-- the variables of a command
abbrev pub env_form : Form
env_form = a_map (of_pattern patterns.EnvironmentKey) no_fields some_text

-- a command: a line, a list, or a table
unfoldable pub command_form : Form
command_form =
    one_or_other command_line_form
    (a_table (must keys.CommandLine command_line_form
    (may keys.Env env_form
    (may keys.RelativeTo (words (codes "none" ∷ codes "workspace-root" ∷ codes "target" ∷ []))
    no_fields))))

-- a setup script
unfoldable pub setup_script_form : Form
setup_script_form =
    a_table (must keys.Command command_form
    (may keys.SlowTimeout (slow_form true (codes "fail" ∷ []))
    (may keys.LeakTimeout leak_timeout_form
    (may keys.CaptureStdout a_truth
    (may keys.CaptureStderr a_truth
    (may keys.Junit (a_table (stored_fields no_fields))
    no_fields))))))

-- a wrapper script
unfoldable pub wrapper_script_form : Form
wrapper_script_form =
    a_table (must keys.Command command_form
    (may keys.TargetRunner (words (codes "ignore" ∷ codes "overrides-wrapper"
    ∷ codes "within-wrapper" ∷ codes "around-wrapper" ∷ []))
    no_fields))

-- things of one form under identifiers
abbrev pub by_identifier : Form → Form
by_identifier f = a_map (of_pattern patterns.Identifier) no_fields f

-- the store
abbrev pub store_form : Form
store_form = a_table (may keys.Dir some_text no_fields)

-- the scripts
abbrev pub scripts_form : Form
scripts_form =
    a_table (may keys.Setup (by_identifier setup_script_form)
    (may keys.Wrapper (by_identifier wrapper_script_form)
    no_fields))

-- a whole file
unfoldable pub file_form : Form
file_form =
    a_table (may keys.Store store_form
    (may keys.NextestVersion anything
    (may keys.Experimental anything
    (may keys.TestGroups (by_identifier group_form)
    (may keys.Script (by_identifier setup_script_form)
    (may keys.Scripts scripts_form
    (may keys.Profile profiles_form
    no_fields)))))))
