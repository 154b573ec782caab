-- The schema that a `Place` means.
use Rattle.std.specs.Prelude.{ℕ, Bool, true, false, List, [], ◌∷◌, map, Option, None}
use Rattle.nextest_tree.specs.Leaf.{cause_of, text_at, a_text, bool_at, a_bool, any_key}
use Rattle.nextest_tree.specs.Node.{Node, Nodes, Entries}
use Rattle.nextest_tree.specs.Schema.{FaultCause, Schema, any, leaf, fields, map_of, items_of, are_noted, are_refused, Fields, no_more, field, not_table, not_array}
use Rattle.nextest_tree.specs.Schema as schemas
use Rattle.nextest_elements.specs.IdentifierReader.{identifier_at, identifier_cause, an_identifier}
use Rattle.nextest_elements.specs.Nanoseconds.{duration_at, a_duration}
use Rattle.nextest_elements.specs.FlakyResult.{flaky_result_at, a_flaky_result}
use Rattle.nextest_elements.specs.Junit.{report_skip_policy_at, a_report_skip_policy, junit_flaky_fail_status_at, a_junit_flaky_fail_status}
use Rattle.nextest_elements.specs.LeakTimeout.{leak_result_at, a_leak_result}
use Rattle.nextest_elements.specs.MaxFail.{limit_at, a_limit}
use Rattle.nextest_elements.specs.Positive.{positive_at, a_positive}
use Rattle.nextest_elements.specs.RetryPolicy.{backoff_at, a_backoff, count_at, a_count, grows_in, retry_across}
use Rattle.nextest_elements.specs.SlowTimeout.{slow_result_at, a_slow_result}
use Rattle.nextest_elements.specs.StatusLevel.{status_level_at, a_status_level, final_status_level_at, a_final_status_level}
use Rattle.nextest_elements.specs.TestGroup.{test_group_at, a_test_group}
use Rattle.nextest_elements.specs.TestOutputDisplay.{test_output_display_at, a_test_output_display}
use Rattle.nextest_elements.specs.TestPriority.{priority_at, a_priority}
use Rattle.nextest_elements.specs.TestThreads.{test_threads_at, a_test_threads}
use Rattle.nextest_elements.specs.ThreadsRequired.{threads_required_at, a_threads_required}
use Rattle.nextest_scripts.specs.Command.{relative_to_at, a_relative_to}
use Rattle.nextest_scripts.specs.CommandLine.{line_cause, list_cause}
use Rattle.nextest_scripts.specs.EnvMap.{env_key_cause}
use Rattle.nextest_scripts.specs.SetupScript.{setup_result_at, a_setup_result}
use Rattle.nextest_scripts.specs.WrapperScript.{target_runner_at, a_target_runner}
use Rattle.nextest_shape.specs.declared.faults.across.Across.{Across}
use Rattle.nextest_shape.specs.declared.faults.across.Across.TheVariants as across_tests
use Rattle.nextest_shape.specs.declared.faults.across.AcrossItems.{AcrossItems}
use Rattle.nextest_shape.specs.declared.faults.across.AcrossItems.TheVariants as item_tests
use Rattle.nextest_shape.specs.declared.faults.across.Names.{Names}
use Rattle.nextest_shape.specs.declared.faults.across.Names.TheVariants as names
use Rattle.nextest_shape.specs.declared.faults.across.Need.{Need}
use Rattle.nextest_shape.specs.declared.faults.across.Need.TheVariants as needs
use Rattle.nextest_shape.specs.declared.faults.leaf.Leaf.{Leaf}
use Rattle.nextest_shape.specs.declared.faults.leaf.Leaf.TheVariants as leaves
use Rattle.nextest_shape.specs.declared.faults.place.Field.{Field}
use Rattle.nextest_shape.specs.declared.faults.place.Others.{Others}
use Rattle.nextest_shape.specs.declared.faults.place.Others.TheVariants as others
use Rattle.nextest_shape.specs.declared.faults.place.Place.{Place}
use Rattle.nextest_shape.specs.declared.faults.place.Place.TheFolds.{fold-Place}
use Rattle.nextest_shape.specs.declared.faults.place.Place.TheOpen.{Place-F}

-- the test of a single value
abbrev pub leaf_test : Leaf → (Node → Option FaultCause)
leaf_test leaves.Text = λ n. cause_of (text_at n)
leaf_test leaves.Boolean = λ n. cause_of (bool_at n)
leaf_test leaves.Duration = λ n. cause_of (duration_at n)
leaf_test leaves.Identifier = λ n. cause_of (identifier_at n)
leaf_test leaves.TestGroup = λ n. cause_of (test_group_at n)
leaf_test leaves.FlakyResult = λ n. cause_of (flaky_result_at n)
leaf_test leaves.StatusLevel = λ n. cause_of (status_level_at n)
leaf_test leaves.FinalStatusLevel = λ n. cause_of (final_status_level_at n)
leaf_test leaves.Output = λ n. cause_of (test_output_display_at n)
leaf_test leaves.Priority = λ n. cause_of (priority_at n)
leaf_test leaves.TestThreads = λ n. cause_of (test_threads_at n)
leaf_test leaves.ThreadsRequired = λ n. cause_of (threads_required_at n)
leaf_test leaves.Positive = λ n. cause_of (positive_at n)
leaf_test leaves.Limit = λ n. cause_of (limit_at n)
leaf_test leaves.Count = λ n. cause_of (count_at n)
leaf_test leaves.Backoff = λ n. cause_of (backoff_at n)
leaf_test leaves.LeakResult = λ n. cause_of (leak_result_at n)
leaf_test leaves.SlowResult = λ n. cause_of (slow_result_at n)
leaf_test leaves.SetupResult = λ n. cause_of (setup_result_at n)
leaf_test leaves.ReportSkipped = λ n. cause_of (report_skip_policy_at n)
leaf_test leaves.FlakyFailStatus = λ n. cause_of (junit_flaky_fail_status_at n)
leaf_test leaves.RelativeTo = λ n. cause_of (relative_to_at n)
leaf_test leaves.TargetRunner = λ n. cause_of (target_runner_at n)
leaf_test leaves.CommandLine = line_cause
leaf_test leaves.Table = not_table
leaf_test leaves.Array = not_array

-- the schema of a single value
abbrev pub leaf_schema : Leaf → Schema
leaf_schema leaves.Text = a_text
leaf_schema leaves.Boolean = a_bool
leaf_schema leaves.Duration = a_duration
leaf_schema leaves.Identifier = an_identifier
leaf_schema leaves.TestGroup = a_test_group
leaf_schema leaves.FlakyResult = a_flaky_result
leaf_schema leaves.StatusLevel = a_status_level
leaf_schema leaves.FinalStatusLevel = a_final_status_level
leaf_schema leaves.Output = a_test_output_display
leaf_schema leaves.Priority = a_priority
leaf_schema leaves.TestThreads = a_test_threads
leaf_schema leaves.ThreadsRequired = a_threads_required
leaf_schema leaves.Positive = a_positive
leaf_schema leaves.Limit = a_limit
leaf_schema leaves.Count = a_count
leaf_schema leaves.Backoff = a_backoff
leaf_schema leaves.LeakResult = a_leak_result
leaf_schema leaves.SlowResult = a_slow_result
leaf_schema leaves.SetupResult = a_setup_result
leaf_schema leaves.ReportSkipped = a_report_skip_policy
leaf_schema leaves.FlakyFailStatus = a_junit_flaky_fail_status
leaf_schema leaves.RelativeTo = a_relative_to
leaf_schema leaves.TargetRunner = a_target_runner
leaf_schema leaves.CommandLine = leaf line_cause
leaf_schema leaves.Table = leaf not_table
leaf_schema leaves.Array = leaf not_array

-- the test over several fields
abbrev pub across_test : Across → (Entries → Option FaultCause)
across_test across_tests.Nothing = λ es. None
across_test across_tests.Delays = retry_across

-- the test of a whole array
abbrev pub items_test : AcrossItems → (Nodes → Option FaultCause)
items_test item_tests.Nothing = λ ns. None
items_test item_tests.First = list_cause

-- the test of a name
abbrev pub names_test : Names → (List ℕ → Option FaultCause)
names_test names.Any = any_key
names_test names.Identifiers = identifier_cause
names_test names.Variables = env_key_cause

-- whether a field has to be there
abbrev pub need_test : Need → (Entries → Bool)
need_test needs.May = λ es. false
need_test needs.Must = λ es. true
need_test needs.Growing = grows_in

-- whether other keys are noted or refused
abbrev pub others_view : Others → schemas.Others
others_view others.Noted = are_noted
others_view others.Refused = are_refused

-- some fields, each with the schema of what may be there
abbrev pub fields_of : List (Field Schema) → Fields
fields_of [] = no_more
fields_of (f ∷ fs) = field f.key (need_test f.need) f.place (fields_of fs)

-- one level, with each place inside already seen as its schema
abbrev pub place_step : Place-F Schema → Schema
place_step Place-F.Anything = any
place_step (Place-F.Leaf l) = leaf_schema l
place_step (Place-F.Table how other fs across) =
    fields (others_view how) other.value (fields_of fs.items) (across_test across)
place_step (Place-F.Map names values) = map_of (names_test names) values.value
place_step (Place-F.List other items across) =
    items_of other.value items.value (items_test across)

-- the schema that a place means
abbrev pub place_view : Place → Schema
place_view = fold-Place Schema place_step

-- a field, with the schema of its place
abbrev pub field_view : Field Place → Field Schema
field_view f = record { key = f.key; need = f.need; place = place_view f.place }

-- the fields that some fields with their places mean
abbrev pub fields_view : List (Field Place) → Fields
fields_view fs = fields_of (map field_view fs)
