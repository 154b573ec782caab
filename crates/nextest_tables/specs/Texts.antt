-- What the tables of a file say.
use Rattle.std.specs.Prelude.{List, [], ◌∷◌, Option, Some, None, option_map, option_and_then, unwrap_or, false, if◌then◌else◌}
use Rattle.std.specs.Result.{result_ok}
use Rattle.nextest_tree.specs.declared.key.Key.{Key}
use Rattle.nextest_tree.specs.declared.key.Key.TheVariants as keys
use Rattle.nextest_tree.specs.Key.{key_text}
use Rattle.nextest_tree.specs.Leaf.{leaf_at, bool_at}
use Rattle.nextest_tree.specs.Node.{Node, table, bool, Nodes, no_nodes, node, Entries, no_entries, entry, get, as_text, as_array, as_table, member_of}
use Rattle.nextest_elements.specs.Nanoseconds.{duration_at}
use Rattle.nextest_elements.specs.declared.bench.BenchConfig.{BenchConfig}
use Rattle.nextest_elements.specs.declared.bench.BenchOverride.{BenchOverride}
use Rattle.nextest_elements.specs.declared.global_timeout.GlobalTimeout.{GlobalTimeout}
use Rattle.nextest_elements.specs.declared.junit.JunitOverride.{JunitOverride}
use Rattle.nextest_elements.specs.declared.leak_timeout.LeakTimeout.{LeakTimeout}
use Rattle.nextest_elements.specs.declared.max_fail.MaxFail.{MaxFail}
use Rattle.nextest_elements.specs.declared.max_fail.MaxFail.TheVariants as limits
use Rattle.nextest_elements.specs.declared.retry_policy.RetryPolicy.{RetryPolicy}
use Rattle.nextest_elements.specs.declared.retry_policy.RetryPolicy.TheVariants as policies
use Rattle.nextest_elements.specs.declared.slow_timeout.SlowTimeout.{SlowTimeout}
use Rattle.nextest_elements.specs.declared.test_group.TestGroupConfig.{TestGroupConfig}
use Rattle.nextest_elements.specs.declared.test_priority.TestPriority.{TestPriority}
use Rattle.nextest_elements.specs.FlakyResult.{flaky_result_at}
use Rattle.nextest_elements.specs.Junit.{report_skip_policy_at, junit_flaky_fail_status_at}
use Rattle.nextest_elements.specs.LeakTimeout.{leak_table, leak_of}
use Rattle.nextest_elements.specs.MaxFail.{limit_at}
use Rattle.nextest_elements.specs.RetryPolicy.{count_at}
use Rattle.nextest_elements.specs.RetryFunction.{retry_table, policy_of}
use Rattle.nextest_elements.specs.SlowTimeout.{slow_table, slow_of}
use Rattle.nextest_elements.specs.StatusLevel.{status_level_at, final_status_level_at}
use Rattle.nextest_elements.specs.TestGroup.{test_group_at, group_table}
use Rattle.nextest_elements.specs.TestOutputDisplay.{test_output_display_at}
use Rattle.nextest_elements.specs.TestPriority.{priority_at}
use Rattle.nextest_elements.specs.TestThreads.{test_threads_at}
use Rattle.nextest_elements.specs.ThreadsRequired.{threads_required_at}
use Rattle.nextest_tables.specs.Written.{Name, Arguments, WrittenSettings, WrittenReport, WrittenFields}

-- what is at a key of a table
abbrev pub at_key : Key → Node → Option Node
at_key k n = member_of (key_text k) n

-- the policy that a node spells: a table what its fields say, a count so many tries without delay
abbrev pub policy_in : Node → Option RetryPolicy
policy_in (table es) = option_and_then policy_of (retry_table es)
policy_in n = option_map (λ count. policies.Fixed count 0 false) (result_ok (count_at n))

-- the priority that a node spells
abbrev pub priority_in : Node → Option TestPriority
priority_in n = option_map (λ z. record { 0 = z }) (result_ok (priority_at n))

-- the texts of an array, if it has texts alone
abbrev pub texts_in : Nodes → Option Arguments
texts_in no_nodes = Some []
texts_in (node n ns) = option_and_then (λ t. option_map (λ ts. t ∷ ts) (texts_in ns)) (as_text n)

-- the arguments that a node spells
abbrev pub arguments_in : Node → Option Arguments
arguments_in n = option_and_then texts_in (as_array n)

-- the slow timeout that a node spells: a table what its fields say, a duration the period alone
abbrev pub slow_in : Node → Option SlowTimeout
slow_in (table es) = slow_table es
slow_in n = option_map slow_of (result_ok (duration_at n))

-- the leak timeout that a node spells: a table what its fields say, a duration the period alone
abbrev pub leak_in : Node → Option LeakTimeout
leak_in (table es) = leak_table es
leak_in n = option_map leak_of (result_ok (duration_at n))

-- the global timeout that a node spells
abbrev pub global_in : Node → Option GlobalTimeout
global_in n = option_map (λ period. record { period = period }) (result_ok (duration_at n))

-- after how many failures a run ends, as a node spells it: true means one, false means all tests
abbrev pub max_fail_in : Node → Option MaxFail
max_fail_in (bool b) = Some (if b then limits.Count 1 else limits.All)
max_fail_in (table es) = leaf_at limit_at (get (key_text keys.MaxFail) es)
max_fail_in _ = None

-- what the table of a profile's report says
abbrev pub report_table : Entries → WrittenReport
report_table es = record {
  path = option_and_then as_text (get (key_text keys.Path) es);
  report_name = option_and_then as_text (get (key_text keys.ReportName) es);
  store_success_output = leaf_at bool_at (get (key_text keys.StoreSuccessOutput) es);
  store_failure_output = leaf_at bool_at (get (key_text keys.StoreFailureOutput) es);
  report_skipped = leaf_at report_skip_policy_at (get (key_text keys.ReportSkipped) es);
  flaky_fail_status = leaf_at junit_flaky_fail_status_at (get (key_text keys.FlakyFailStatus) es);
}

-- the report of a profile that a node spells
abbrev pub report_in : Node → Option WrittenReport
report_in n = option_map report_table (as_table n)

-- what the table of an override's report says
abbrev pub report_override_table : Entries → JunitOverride
report_override_table es = record {
  store_success_output = leaf_at bool_at (get (key_text keys.StoreSuccessOutput) es);
  store_failure_output = leaf_at bool_at (get (key_text keys.StoreFailureOutput) es);
  report_skipped = leaf_at report_skip_policy_at (get (key_text keys.ReportSkipped) es);
  flaky_fail_status = leaf_at junit_flaky_fail_status_at (get (key_text keys.FlakyFailStatus) es);
}

-- the report of an override that a node spells
abbrev pub report_override_in : Node → Option JunitOverride
report_override_in n = option_map report_override_table (as_table n)

-- what the table of a profile's benchmarks says
abbrev pub bench_table : Entries → BenchConfig
bench_table es = record {
  slow_timeout = option_and_then slow_in (get (key_text keys.SlowTimeout) es);
  global_timeout = option_and_then global_in (get (key_text keys.GlobalTimeout) es);
}

-- the timeouts of a profile's benchmarks that a node spells
abbrev pub bench_in : Node → Option BenchConfig
bench_in n = option_map bench_table (as_table n)

-- what the table of an override's benchmarks says
abbrev pub bench_override_table : Entries → BenchOverride
bench_override_table es =
    record { slow_timeout = option_and_then slow_in (get (key_text keys.SlowTimeout) es) }

-- the timeout of an override's benchmarks that a node spells
abbrev pub bench_override_in : Node → Option BenchOverride
bench_override_in n = option_map bench_override_table (as_table n)

-- what the fields of an override write; what is not a table writes what an empty one would
abbrev pub settings_in : Node → WrittenSettings
settings_in n = record {
  priority = option_and_then priority_in (at_key keys.Priority n);
  threads_required = leaf_at threads_required_at (at_key keys.ThreadsRequired n);
  run_extra_args = option_and_then arguments_in (at_key keys.RunExtraArgs n);
  retries = option_and_then policy_in (at_key keys.Retries n);
  flaky_result = leaf_at flaky_result_at (at_key keys.FlakyResult n);
  slow_timeout = option_and_then slow_in (at_key keys.SlowTimeout n);
  leak_timeout = option_and_then leak_in (at_key keys.LeakTimeout n);
  test_group = leaf_at test_group_at (at_key keys.TestGroup n);
  success_output = leaf_at test_output_display_at (at_key keys.SuccessOutput n);
  failure_output = leaf_at test_output_display_at (at_key keys.FailureOutput n);
  junit = option_and_then report_override_in (at_key keys.Junit n);
  bench = option_and_then bench_override_in (at_key keys.Bench n);
}

-- what the fields of a profile write; what is not a table writes what an empty one would
abbrev pub fields_in : Node → WrittenFields
fields_in n = record {
  retries = option_and_then policy_in (at_key keys.Retries n);
  flaky_result = leaf_at flaky_result_at (at_key keys.FlakyResult n);
  test_threads = leaf_at test_threads_at (at_key keys.TestThreads n);
  threads_required = leaf_at threads_required_at (at_key keys.ThreadsRequired n);
  run_extra_args = option_and_then arguments_in (at_key keys.RunExtraArgs n);
  status_level = leaf_at status_level_at (at_key keys.StatusLevel n);
  final_status_level = leaf_at final_status_level_at (at_key keys.FinalStatusLevel n);
  failure_output = leaf_at test_output_display_at (at_key keys.FailureOutput n);
  success_output = leaf_at test_output_display_at (at_key keys.SuccessOutput n);
  max_fail = option_and_then max_fail_in (at_key keys.FailFast n);
  slow_timeout = option_and_then slow_in (at_key keys.SlowTimeout n);
  global_timeout = option_and_then global_in (at_key keys.GlobalTimeout n);
  leak_timeout = option_and_then leak_in (at_key keys.LeakTimeout n);
  junit = option_and_then report_in (at_key keys.Junit n);
  bench = option_and_then bench_in (at_key keys.Bench n);
}

-- what the table of a group says, where its `max-threads` is there
abbrev pub group_in : Node → Option TestGroupConfig
group_in n = option_and_then group_table (as_table n)

-- what f reads in each entry of a table, under its key
abbrev pub each_in : {X : Type 0} → (Node → X) → Entries → List (Name × X)
each_in f no_entries = []
each_in f (entry k n es) = (k, f n) ∷ each_in f es

-- the entries of the table at a key, none where there is no table
abbrev pub entries_at : Key → Node → Entries
entries_at k n = unwrap_or (option_and_then as_table (at_key k n)) no_entries
