-- A file of the form that the defaults give has a complete profile `default`.
use Rattle.std.proofs.Common.{◌≡◌, ℕ, List, [], ◌∷◌, map, cond, Option, Some, None, option_map, option_and_then, unwrap_or, IsSome, Result, Ok, Err, IfOk, String, Global, string_bytes, Ordering, Less, Equal, Greater, is_eq, refl}
use Rattle.std.specs.BTreeMap.{is_at}
use Rattle.std.specs.Cmp.Lexicographic.{slice_cmp}
use Rattle.std.specs.Map.{lookup}
use Rattle.std.specs.Option.{IsSomeAnd}
use Rattle.std.specs.Ordering.{nat_cmp, match_ordering}
use Rattle.nextest_tree.specs.declared.key.Key.TheVariants as keys
use Rattle.nextest_tree.specs.Key.{key_text}
use Rattle.nextest_tree.specs.Leaf.{IsText}
use Rattle.nextest_tree.specs.Node.{Node, table, array, text, int, bool, opaque, Entries, no_entries, entry, get, as_table}
use Rattle.nextest_tree.specs.Reads.{IsOptional, IsMap, InTable}
use Rattle.nextest_tree.specs.declared.fault.ElementFault.{ElementFault}
use Rattle.nextest_elements.specs.Bench.{IsBench}
use Rattle.nextest_elements.specs.Junit.{IsJunit}
use Rattle.nextest_elements.specs.declared.bench.BenchConfig.{BenchConfig}
use Rattle.nextest_elements.specs.declared.junit.JunitImpl.{JunitImpl}
use Rattle.nextest_tables.specs.Complete.{IsComplete, HasCompleteDefault, IsMergedTree}
use Rattle.nextest_tables.specs.FileTexts.{ProfileText}
use Rattle.nextest_tables.specs.Values.{AreTexts, IsProfile, IsFile}
use Rattle.nextest_tables.specs.View.{report_view, fields_view, profile_view, by_name, file_table_view}
use Rattle.nextest_tables.specs.Written.{WrittenReport, default_name}
use Rattle.nextest_tables.specs.declared.file_table.FileTable.{FileTable}
use Rattle.nextest_tables.specs.declared.profile_table.ProfileTable.{ProfileTable}
use Rattle.nextest_tables.proofs.Form.{junit_form, bench_form, profile_form, profiles_form, file_form, merged_form}
use Rattle.nextest_tables.proofs.Kept.{Keeps}

-- a value is written where something is at its key
some_of : {X Y : Type 0} (P : Node → X → Type 0) (show : X → Y) (o : Option Node) (x : Option X)
    → IsSomeAnd o (Keeps opaque) → IsOptional P o x → IsSome (option_map show x)
some_of P show (Some n) (Some x) g h = refl
some_of P show (Some n) None g h = absurd h
some_of P show None x g h = absurd g

is_there : {X : Type 0} (P : Node → X → Type 0) (o : Option Node) (x : Option X) → IsSomeAnd o (Keeps opaque)
    → IsOptional P o x → IsSome x
is_there P (Some n) (Some x) g h = refl
is_there P (Some n) None g h = absurd h
is_there P None x g h = absurd g

-- the report writes all but its path
record ReportIsThere (r : Option WrittenReport) : Type 0 where
  report_name : IsSome (option_and_then (λ r. r.report_name) r)
  store_success_output : IsSome (option_and_then (λ r. r.store_success_output) r)
  store_failure_output : IsSome (option_and_then (λ r. r.store_failure_output) r)
  report_skipped : IsSome (option_and_then (λ r. r.report_skipped) r)
  flaky_fail_status : IsSome (option_and_then (λ r. r.flaky_fail_status) r)

report_is_there : (o : Option Node) (x : Option JunitImpl) → IsSomeAnd o (Keeps junit_form)
    → IsOptional (InTable IsJunit) o x → ReportIsThere (option_map report_view x)
report_is_there (Some (table es)) (Some j) g h = record {
  report_name = some_of IsText string_bytes (get (key_text keys.ReportName) es) j.report_name g.0 h.report_name;
  store_success_output = is_there _ (get (key_text keys.StoreSuccessOutput) es) j.store_success_output g.1.0
      h.store_success_output;
  store_failure_output = is_there _ (get (key_text keys.StoreFailureOutput) es) j.store_failure_output g.1.1.0
      h.store_failure_output;
  report_skipped = is_there _ (get (key_text keys.ReportSkipped) es) j.report_skipped g.1.1.1.0 h.report_skipped;
  flaky_fail_status = is_there _ (get (key_text keys.FlakyFailStatus) es) j.flaky_fail_status g.1.1.1.1.0
      h.flaky_fail_status;
}
report_is_there (Some (array ns)) (Some j) g h = absurd h
report_is_there (Some (text t)) (Some j) g h = absurd h
report_is_there (Some (int z)) (Some j) g h = absurd h
report_is_there (Some (bool b)) (Some j) g h = absurd h
report_is_there (Some opaque) (Some j) g h = absurd h
report_is_there (Some n) None g h = absurd h
report_is_there None x g h = absurd g

-- the benchmarks write both timeouts
record BenchIsThere (b : Option BenchConfig) : Type 0 where
  slow_timeout : IsSome (option_and_then (λ b. b.slow_timeout) b)
  global_timeout : IsSome (option_and_then (λ b. b.global_timeout) b)

bench_is_there : (o : Option Node) (x : Option BenchConfig) → IsSomeAnd o (Keeps bench_form)
    → IsOptional (InTable IsBench) o x → BenchIsThere x
bench_is_there (Some (table es)) (Some b) g h = record {
  slow_timeout = is_there _ (get (key_text keys.SlowTimeout) es) b.slow_timeout g.0 h.slow_timeout;
  global_timeout = is_there _ (get (key_text keys.GlobalTimeout) es) b.global_timeout g.1.0 h.global_timeout;
}
bench_is_there (Some (array ns)) (Some b) g h = absurd h
bench_is_there (Some (text t)) (Some b) g h = absurd h
bench_is_there (Some (int z)) (Some b) g h = absurd h
bench_is_there (Some (bool f)) (Some b) g h = absurd h
bench_is_there (Some opaque) (Some b) g h = absurd h
bench_is_there (Some n) None g h = absurd h
bench_is_there None x g h = absurd g

fields_complete : (es : Entries) (x : ProfileTable) → Keeps profile_form (table es) → IsProfile es x
    → IsComplete (fields_view x.fields)
fields_complete es x g h =
    let report = report_is_there (get (key_text keys.Junit) es) x.fields.junit g.0 h.junit in
    let bench = bench_is_there (get (key_text keys.Bench) es) x.fields.bench g.1.0 h.bench in
    let runs = g.1.1 in
    let outputs = runs.1.1.1.1.1 in
    let ends = outputs.1.1.1.1 in
    record {
      retries = is_there _ (get (key_text keys.Retries) es) x.fields.runs.retries runs.0 h.runs.retries;
      flaky_result = is_there _ (get (key_text keys.FlakyResult) es) x.fields.runs.flaky_result runs.1.0
          h.runs.flaky_result;
      test_threads = is_there _ (get (key_text keys.TestThreads) es) x.fields.runs.test_threads runs.1.1.0
          h.runs.test_threads;
      threads_required = is_there _ (get (key_text keys.ThreadsRequired) es) x.fields.runs.threads_required
          runs.1.1.1.0 h.runs.threads_required;
      run_extra_args = some_of AreTexts (λ v. map string_bytes v.items) (get (key_text keys.RunExtraArgs) es)
          x.fields.runs.run_extra_args runs.1.1.1.1.0 h.runs.run_extra_args;
      status_level = is_there _ (get (key_text keys.StatusLevel) es) x.fields.outputs.status_level outputs.0
          h.outputs.status_level;
      final_status_level = is_there _ (get (key_text keys.FinalStatusLevel) es)
          x.fields.outputs.final_status_level outputs.1.0 h.outputs.final_status_level;
      failure_output = is_there _ (get (key_text keys.FailureOutput) es) x.fields.outputs.failure_output
          outputs.1.1.0 h.outputs.failure_output;
      success_output = is_there _ (get (key_text keys.SuccessOutput) es) x.fields.outputs.success_output
          outputs.1.1.1.0 h.outputs.success_output;
      max_fail = is_there _ (get (key_text keys.FailFast) es) x.fields.ends.max_fail ends.0 h.ends.max_fail;
      slow_timeout = is_there _ (get (key_text keys.SlowTimeout) es) x.fields.ends.slow_timeout ends.1.0
          h.ends.slow_timeout;
      global_timeout = is_there _ (get (key_text keys.GlobalTimeout) es) x.fields.ends.global_timeout
          ends.1.1.0 h.ends.global_timeout;
      leak_timeout = is_there _ (get (key_text keys.LeakTimeout) es) x.fields.ends.leak_timeout ends.1.1.1.0
          h.ends.leak_timeout;
      report_name = report.report_name;
      store_success_output = report.store_success_output;
      store_failure_output = report.store_failure_output;
      report_skipped = report.report_skipped;
      flaky_fail_status = report.flaky_fail_status;
      bench_slow_timeout = bench.slow_timeout;
      bench_global_timeout = bench.global_timeout;
    }

profile_complete : (n : Node) (x : ProfileTable) → Keeps profile_form n → InTable IsProfile n x
    → IsComplete (fields_view x.fields)
profile_complete (table es) x g h = fields_complete es x g h
profile_complete (array ns) x g h = absurd h
profile_complete (text t) x g h = absurd h
profile_complete (int z) x g h = absurd h
profile_complete (bool b) x g h = absurd h
profile_complete opaque x g h = absurd h

-- a profile that is found at a name
record Found (o : Option ProfileText) : Type 0 where
  profile : ProfileText
  there : o ≡ Some profile
  complete : IsComplete profile.fields

by_order : (o : Ordering) (n : Node) (x : ProfileTable) (g : Option Node) (more : Option ProfileText)
    → InTable IsProfile n x → (IsSomeAnd g (Keeps profile_form) → Found more)
    → IsSomeAnd (match_ordering o g (Some n) g) (Keeps profile_form)
    → Found (cond (is_eq o) (Some (profile_view x)) more)
by_order Less n x g more is rest h = rest h
by_order Equal n x g more is rest h =
    record { profile = profile_view x; there = refl; complete = profile_complete n x h is }
by_order Greater n x g more is rest h = rest h

find : (name : List ℕ) (es : Entries) (xs : List (String Global × ProfileTable))
    → IsMap string_bytes (InTable IsProfile) es xs → IsSomeAnd (get name es) (Keeps profile_form)
    → Found (lookup (is_at (slice_cmp nat_cmp name)) (by_name profile_view xs))
find name no_entries [] h g = absurd g
find name (entry k n es) (x ∷ xs) h g =
    rw h.0 (by_order (slice_cmp nat_cmp name k) n x.1 (get name es)
    (lookup (is_at (slice_cmp nat_cmp name)) (by_name profile_view xs)) h.1 (find name es xs h.2) g)
find name no_entries (x ∷ xs) h g = absurd h
find name (entry k n es) [] h g = absurd h

find_default : (o : Option Node) (xs : List (String Global × ProfileTable))
    → IsSomeAnd o (Keeps profiles_form)
    → IsMap string_bytes (InTable IsProfile) (unwrap_or (option_and_then as_table o) no_entries) xs
    → Found (lookup (is_at (slice_cmp nat_cmp default_name)) (by_name profile_view xs))
find_default (Some (table es)) xs g h = find default_name es xs h g.0
find_default (Some (array ns)) xs g h = absurd g
find_default (Some (text t)) xs g h = absurd g
find_default (Some (int z)) xs g h = absurd g
find_default (Some (bool b)) xs g h = absurd g
find_default (Some opaque) xs g h = absurd g
find_default None xs g h = absurd g

whole_complete : (es : Entries) (x : FileTable) → Keeps file_form (table es) → IsFile es x
    → HasCompleteDefault (file_table_view x)
whole_complete es x g h =
    let found = find_default (get (key_text keys.Profile) es) x.profiles.entries g.0 h.profiles in
    record { profile = found.profile; there = found.there; complete = found.complete }

file_complete : (n : Node) (x : FileTable) → Keeps file_form n → InTable IsFile n x
    → HasCompleteDefault (file_table_view x)
file_complete (table es) x g h = whole_complete es x g h
file_complete (array ns) x g h = absurd h
file_complete (text t) x g h = absurd h
file_complete (int z) x g h = absurd h
file_complete (bool b) x g h = absurd h
file_complete opaque x g h = absurd h

-- what was read of such a tree, if it was read
pub read_complete : (r : Result FileTable ElementFault) (n : Node) (files : List Node)
    → IfOk r (InTable IsFile n) → IsMergedTree files n → IfOk r (λ x. HasCompleteDefault (file_table_view x))
read_complete (Ok x) n files h merged = file_complete n x (merged_form files n merged) h
read_complete (Err e) n files h merged = tt
