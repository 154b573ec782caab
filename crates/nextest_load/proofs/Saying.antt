-- What a tree without faults says: what is at each key that the defaults have is a value, so its
-- profile `default` is complete.
use Rattle.std.proofs.Common.{◌≡◌, ◌∙◌, ℕ, List, [], ◌∷◌, ◌++◌, ◌+◌, ◌&&◌, ap, append_assoc, map, Bool, true, false, Option, Some, None, option_map, option_and_then, Result, Ok, Err, IsSome, if◌then◌else◌, refl, sym, unwrap_or}
use Rattle.std.specs.Fmt.{decimal}
use Rattle.std.specs.List.{AllByRecursion}
use Rattle.std.specs.Option.{IsSomeAnd}
use Rattle.std.specs.Result.{result_ok}
use Rattle.nextest_engines.specs.Readings.{Readings}
use Rattle.nextest_tree.specs.Key.{key_text}
use Rattle.nextest_tree.specs.Leaf.{cause_of, value, leaf_at, a_text, bool_at, a_bool, any_key}
use Rattle.nextest_tree.specs.Node.{Node, table, array, text, int, bool, opaque, Nodes, no_nodes, node, Entries, no_entries, get, as_text, as_table}
use Rattle.nextest_tree.specs.Schema.{FaultCause, out_of_range, Schema, at, each_item, below, faults, fields_faults, field_faults, map_of, list_of}
use Rattle.nextest_tree.specs.declared.key.Key.{Key}
use Rattle.nextest_tree.specs.declared.key.Key.TheVariants as keys
use Rattle.nextest_elements.specs.Nanoseconds.{duration_at, a_duration}
use Rattle.nextest_elements.specs.Bench.{bench, bench_fields}
use Rattle.nextest_elements.specs.FlakyResult.{flaky_result_at, a_flaky_result}
use Rattle.nextest_elements.specs.Junit.{a_junit, junit_fields, report_skip_policy_at, a_report_skip_policy, junit_flaky_fail_status_at, a_junit_flaky_fail_status}
use Rattle.nextest_elements.specs.LeakTimeout.{leak_timeout, leak_fields, leak_of}
use Rattle.nextest_elements.specs.MaxFail.{a_max_fail, max_fail_fields, limit_at, a_limit}
use Rattle.nextest_elements.specs.RetryPolicy.{retry, retry_fields, retry_across, count_at, a_count, backoff_at, a_backoff, grows, grows_in, is_below, is_exponential}
use Rattle.nextest_elements.specs.SlowTimeout.{slow_timeout, slow_fields, slow_of}
use Rattle.nextest_elements.specs.StatusLevel.{status_level_at, a_status_level, final_status_level_at, a_final_status_level}
use Rattle.nextest_elements.specs.TestOutputDisplay.{test_output_display_at, a_test_output_display}
use Rattle.nextest_elements.specs.TestThreads.{test_threads_at, a_test_threads}
use Rattle.nextest_elements.specs.ThreadsRequired.{threads_required_at, a_threads_required}
use Rattle.nextest_rules.specs.Definitions.{Features}
use Rattle.nextest_rules.specs.Rules.{at_name}
use Rattle.nextest_rules.proofs.AtName.{at_each}
use Rattle.nextest_sources.specs.Inputs.{LoadInputs, SourceText, sources_in}
use Rattle.nextest_tables.specs.Complete.{IsComplete, HasCompleteDefault, IsReadable, IsMergedTree}
use Rattle.nextest_tables.specs.FileTexts.{ProfileText, profile_text, file_text}
use Rattle.nextest_tables.specs.Tables.{a_profile, profile_fields, a_file, file_fields}
use Rattle.nextest_tables.specs.Texts.{policy_in, texts_in, arguments_in, slow_in, leak_in, global_in, max_fail_in, report_in, bench_in, fields_in, each_in}
use Rattle.nextest_tables.specs.Written.{WrittenReport, default_name}
use Rattle.nextest_elements.specs.declared.bench.BenchConfig.{BenchConfig}
use Rattle.nextest_tables.proofs.Form.{junit_form, bench_form, profile_form, profiles_form, file_form, merged_form}
use Rattle.nextest_tables.proofs.Free.{left_nil, right_nil, struct_free, entry_free}
use Rattle.nextest_tables.proofs.Kept.{Keeps}
use Rattle.nextest_load.specs.Accepted.{EachOver, IsAcceptedSource, IsAccepted}
use Rattle.nextest_load.specs.Trees.{tree_in, merged_tree, merged_file}

map_some : {X Y : Type 0} (f : X → Y) (o : Option X) → IsSome o → IsSome (option_map f o)
map_some f (Some x) h = refl
map_some f None h = absurd (cc)

-- a leaf without a fault has a value
leaf_says : {X : Type 0} (q : List ℕ) (r : Result X FaultCause) → at q (cause_of r) ≡ [] → IsSome (result_ok r)
leaf_says q (Ok x) h = refl
leaf_says q (Err c) h = absurd (cc)

-- a test that finds nothing
passed : (q : List ℕ) (b : Bool) (c : FaultCause) → at q (if b then Some c else None) ≡ [] → b ≡ false
passed q true c h = absurd (cc)
passed q false c h = refl

-- what is at a key, and has no fault, says something
said : {X : Type 0} (k : Key) (must : Bool) (s : Schema) (p : List ℕ) (say : Node → Option X) (o : Option Node)
    → ((q : List ℕ) (n : Node) → faults s q n ≡ [] → IsSome (say n)) → field_faults k must (faults s) p o ≡ []
    → IsSomeAnd o (Keeps opaque) → IsSome (option_and_then say o)
unfolding field_faults
said k must s p say (Some n) each h g = each _ n h
said k must s p say None each h g = absurd g

leaf_said : {X : Type 0} (k : Key) (must : Bool) (read : Node → Result X FaultCause) (p : List ℕ) (o : Option Node)
    → field_faults k must (faults (value read)) p o ≡ [] → IsSomeAnd o (Keeps opaque) → IsSome (leaf_at read o)
unfolding field_faults
leaf_said k must read p (Some n) h g = leaf_says _ (read n) h
leaf_said k must read p None h g = absurd g

-- what has to be at a key, and has no fault, is there
must_say : {X : Type 0} (k : Key) (must : Bool) (read : Node → Result X FaultCause) (p : List ℕ) (o : Option Node)
    → must ≡ true → field_faults k must (faults (value read)) p o ≡ [] → IsSome (leaf_at read o)
unfolding field_faults
must_say k true read p (Some n) e h = leaf_says _ (read n) h
must_say k false read p o e h = absurd (cc)
must_say k true read p None e h = absurd (cc)

text_says : (q : List ℕ) (n : Node) → faults a_text q n ≡ [] → IsSome (as_text n)
unfolding a_text
text_says q (text t) h = refl
text_says q (table es) h = absurd (cc)
text_says q (array ns) h = absurd (cc)
text_says q (int z) h = absurd (cc)
text_says q (bool b) h = absurd (cc)
text_says q opaque h = absurd (cc)

text_then : {X : Type 0} (f : List ℕ → Option X) (o : Option (List ℕ)) → IsSome o
    → ((t : List ℕ) → IsSome (f t)) → IsSome (option_and_then f o)
text_then f (Some t) h each = each t
text_then f None h each = absurd (cc)

texts_say : (q : List ℕ) (i : ℕ) (ns : Nodes) → each_item (faults a_text) q i ns ≡ [] → IsSome (texts_in ns)
texts_say q i no_nodes h = refl
texts_say q i (node n ns) h =
    let here = faults a_text (below q (decimal i)) n in
    let rest = each_item (faults a_text) q (i + 1) ns in
    text_then (λ t. option_map (λ ts. t ∷ ts) (texts_in ns)) (as_text n)
    (text_says (below q (decimal i)) n (left_nil here rest h))
    (λ t. map_some (λ ts. t ∷ ts) (texts_in ns) (texts_say q (i + 1) ns (right_nil here rest h)))

arguments_say : (q : List ℕ) (n : Node) → faults (list_of a_text) q n ≡ [] → IsSome (arguments_in n)
arguments_say q (array ns) h = texts_say q 0 ns (left_nil (each_item (faults a_text) q 0 ns) [] h)
arguments_say q (table es) h = absurd (cc)
arguments_say q (text t) h = absurd (cc)
arguments_say q (int z) h = absurd (cc)
arguments_say q (bool b) h = absurd (cc)
arguments_say q opaque h = absurd (cc)

global_says : (q : List ℕ) (n : Node) → faults a_duration q n ≡ [] → IsSome (global_in n)
unfolding a_duration
global_says q n h = map_some _ (result_ok (duration_at n)) (leaf_says q (duration_at n) h)

slow_says : (q : List ℕ) (n : Node) → faults slow_timeout q n ≡ [] → IsSome (slow_in n)
unfolding a_duration
slow_says q (table es) h =
    let period = struct_free slow_fields q es h in
    map_some _ _ (must_say keys.Period true duration_at q (get (key_text keys.Period) es) refl period.0)
slow_says q (array ns) h = map_some slow_of (result_ok (duration_at (array ns))) (leaf_says q (duration_at (array ns)) h)
slow_says q (text t) h = map_some slow_of (result_ok (duration_at (text t))) (leaf_says q (duration_at (text t)) h)
slow_says q (int z) h = map_some slow_of (result_ok (duration_at (int z))) (leaf_says q (duration_at (int z)) h)
slow_says q (bool b) h = map_some slow_of (result_ok (duration_at (bool b))) (leaf_says q (duration_at (bool b)) h)
slow_says q opaque h = map_some slow_of (result_ok (duration_at opaque)) (leaf_says q (duration_at opaque) h)

leak_says : (q : List ℕ) (n : Node) → faults leak_timeout q n ≡ [] → IsSome (leak_in n)
unfolding a_duration
leak_says q (table es) h =
    let period = struct_free leak_fields q es h in
    map_some _ _ (must_say keys.Period true duration_at q (get (key_text keys.Period) es) refl period.0)
leak_says q (array ns) h = map_some leak_of (result_ok (duration_at (array ns))) (leaf_says q (duration_at (array ns)) h)
leak_says q (text t) h = map_some leak_of (result_ok (duration_at (text t))) (leaf_says q (duration_at (text t)) h)
leak_says q (int z) h = map_some leak_of (result_ok (duration_at (int z))) (leaf_says q (duration_at (int z)) h)
leak_says q (bool b) h = map_some leak_of (result_ok (duration_at (bool b))) (leaf_says q (duration_at (bool b)) h)
leak_says q opaque h = map_some leak_of (result_ok (duration_at opaque)) (leaf_says q (duration_at opaque) h)

max_fail_says : (q : List ℕ) (n : Node) → faults a_max_fail q n ≡ [] → IsSome (max_fail_in n)
unfolding a_max_fail a_limit a_bool
max_fail_says q (bool b) h = refl
max_fail_says q (table es) h =
    let limit = struct_free max_fail_fields q es h in
    must_say keys.MaxFail true limit_at q (get (key_text keys.MaxFail) es) refl limit.0
max_fail_says q (array ns) h = absurd (cc)
max_fail_says q (text t) h = absurd (cc)
max_fail_says q (int z) h = absurd (cc)
max_fail_says q opaque h = absurd (cc)

absent : {X Q : Type 0} (o : Option X) → IsSome o → o ≡ None → Q
absent None h is = absurd (cc)
absent (Some x) h is = absurd (cc)

-- what is made of two values that are there
both_say : {B C T X : Type 0} (make : B → C → T) (f : T → Option X) (ob : Option B) (oc : Option C) → IsSome ob
    → IsSome oc → ((b : B) (c : C) → ob ≡ Some b → IsSome (f (make b c)))
    → IsSome (option_and_then f (option_and_then (λ b. option_map (λ c. make b c) oc) ob))
both_say make f (Some b) (Some c) hb hc each = each b c refl
both_say make f (Some b) None hb hc each = absurd (cc)
both_say make f None oc hb hc each = absurd (cc)

-- a policy whose delays grow has a delay, and no `max-delay` below it
chosen : {X : Type 0} (is : Bool) (delay : Option ℕ) (below : ℕ → Bool) (growing : ℕ → X) (steady : X)
    → (is ≡ true → IsSome delay) → ((d : ℕ) → is ≡ true → delay ≡ Some d → below d ≡ false)
    → IsSome (if is then option_and_then (λ d. if below d then None else Some (growing d)) delay else Some steady)
chosen false delay below growing steady h k = refl
chosen true (Some d) below growing steady h k = rw (k d refl refl) refl
chosen true None below growing steady h k = absent {X = ℕ} None (h refl) refl

second_false : (a b : Bool) → a ≡ true → (a && b) ≡ false → b ≡ false
second_false true b is h = h
second_false false b is h = absurd (cc)

policy_says : (q : List ℕ) (n : Node) → faults retry q n ≡ [] → IsSome (policy_in n)
unfolding a_backoff a_count a_duration
policy_says q (table es) h =
    let across = at q (retry_across es) in
    let fields = left_nil (fields_faults retry_fields q es) across h in
    let free = struct_free retry_fields q es (ap (λ faults. faults ++ []) fields) in
    let backoff = leaf_at backoff_at (get (key_text keys.Backoff) es) in
    let delay = leaf_at duration_at (get (key_text keys.Delay) es) in
    let max_delay = leaf_at duration_at (get (key_text keys.MaxDelay) es) in
    let not_below = passed q (grows_in es && is_below max_delay delay) out_of_range
    (right_nil (fields_faults retry_fields q es) across h) in
    both_say _ _ backoff (leaf_at count_at (get (key_text keys.Count) es))
    (must_say keys.Backoff true backoff_at q (get (key_text keys.Backoff) es) refl free.0)
    (must_say keys.Count true count_at q (get (key_text keys.Count) es) refl free.1.0)
    (λ b c there. chosen (is_exponential b) delay (λ d. is_below max_delay (Some d)) _ _
    (λ is. must_say keys.Delay (grows_in es) duration_at q (get (key_text keys.Delay) es) (ap grows there ∙ is)
    free.1.1.0)
    (λ d is said. ap (is_below max_delay) (sym said)
    ∙ second_false (grows_in es) (is_below max_delay delay) (ap grows there ∙ is) not_below))
policy_says q (array ns) h = absurd (cc)
policy_says q (text t) h = absurd (cc)
policy_says q (int z) h = map_some _ (result_ok (count_at (int z))) (leaf_says q (count_at (int z)) h)
policy_says q (bool b) h = absurd (cc)
policy_says q opaque h = absurd (cc)

-- the report says all but its path
record ReportSays (r : Option WrittenReport) : Type 0 where
  report_name : IsSome (option_and_then (λ r. r.report_name) r)
  store_success_output : IsSome (option_and_then (λ r. r.store_success_output) r)
  store_failure_output : IsSome (option_and_then (λ r. r.store_failure_output) r)
  report_skipped : IsSome (option_and_then (λ r. r.report_skipped) r)
  flaky_fail_status : IsSome (option_and_then (λ r. r.flaky_fail_status) r)

report_says : (q : List ℕ) (n : Node) → faults a_junit q n ≡ [] → Keeps junit_form n → ReportSays (report_in n)
unfolding a_junit a_bool a_report_skip_policy a_junit_flaky_fail_status
report_says q (table es) h g =
    let free = struct_free junit_fields q es h in
    let flags = free.1.1 in record {
      report_name = said keys.ReportName false a_text q as_text (get (key_text keys.ReportName) es) text_says free.1.0
          g.0;
      store_success_output = leaf_said keys.StoreSuccessOutput false bool_at q
          (get (key_text keys.StoreSuccessOutput) es) flags.0 g.1.0;
      store_failure_output = leaf_said keys.StoreFailureOutput false bool_at q
          (get (key_text keys.StoreFailureOutput) es) flags.1.0 g.1.1.0;
      report_skipped = leaf_said keys.ReportSkipped false report_skip_policy_at q
          (get (key_text keys.ReportSkipped) es) flags.1.1.0 g.1.1.1.0;
      flaky_fail_status = leaf_said keys.FlakyFailStatus false junit_flaky_fail_status_at q
          (get (key_text keys.FlakyFailStatus) es) flags.1.1.1.0 g.1.1.1.1.0;
    }
report_says q (array ns) h g = absurd g
report_says q (text t) h g = absurd g
report_says q (int z) h g = absurd g
report_says q (bool b) h g = absurd g
report_says q opaque h g = absurd g

-- the benchmarks say both timeouts
record BenchSays (b : Option BenchConfig) : Type 0 where
  slow_timeout : IsSome (option_and_then (λ b. b.slow_timeout) b)
  global_timeout : IsSome (option_and_then (λ b. b.global_timeout) b)

bench_says : (q : List ℕ) (n : Node) → faults bench q n ≡ [] → Keeps bench_form n → BenchSays (bench_in n)
bench_says q (table es) h g =
    let free = struct_free bench_fields q es h in record {
      slow_timeout = said keys.SlowTimeout false slow_timeout q slow_in (get (key_text keys.SlowTimeout) es) slow_says
          free.0 g.0;
      global_timeout = said keys.GlobalTimeout false a_duration q global_in (get (key_text keys.GlobalTimeout) es)
          global_says free.1.0 g.1.0;
    }
bench_says q (array ns) h g = absurd g
bench_says q (text t) h g = absurd g
bench_says q (int z) h g = absurd g
bench_says q (bool b) h g = absurd g
bench_says q opaque h g = absurd g

-- what is at a key, and has no fault, has a part of a form and says something
said_in : {X : Type 0} (k : Key) (must : Bool) (s : Schema) (form : Node) (p : List ℕ) (say : Node → Option X)
    (P : Option X → Type 0) (o : Option Node)
    → ((q : List ℕ) (n : Node) → faults s q n ≡ [] → Keeps form n → P (say n))
    → field_faults k must (faults s) p o ≡ [] → IsSomeAnd o (Keeps form) → P (option_and_then say o)
unfolding field_faults
said_in k must s form p say P (Some n) each h g = each _ n h g
said_in k must s form p say P None each h g = absurd g

-- a profile of this form is complete
profile_says : (q : List ℕ) (n : Node) → faults a_profile q n ≡ [] → Keeps profile_form n → IsComplete (fields_in n)
unfolding a_profile profile_fields a_flaky_result a_test_threads a_threads_required a_status_level a_final_status_level a_test_output_display
profile_says q (table es) h g =
    let free = struct_free profile_fields q es h in
    let runs = free.1 in
    let outputs = runs.1.1.1.1.1 in
    let ends = outputs.1.1.1.1 in
    let rest = ends.1.1.1.1.1.1 in
    let report = said_in keys.Junit false a_junit junit_form q report_in ReportSays (get (key_text keys.Junit) es)
    report_says rest.0 g.0 in
    let bench = said_in keys.Bench false bench bench_form q bench_in BenchSays (get (key_text keys.Bench) es)
    bench_says rest.1.1.0 g.1.0 in
    let there = g.1.1 in
    let shown = there.1.1.1.1.1 in
    let ended = shown.1.1.1.1 in record {
      retries = said keys.Retries false retry q policy_in (get (key_text keys.Retries) es) policy_says runs.0 there.0;
      flaky_result = leaf_said keys.FlakyResult false flaky_result_at q (get (key_text keys.FlakyResult) es)
          runs.1.0 there.1.0;
      test_threads = leaf_said keys.TestThreads false test_threads_at q (get (key_text keys.TestThreads) es)
          runs.1.1.0 there.1.1.0;
      threads_required = leaf_said keys.ThreadsRequired false threads_required_at q
          (get (key_text keys.ThreadsRequired) es) runs.1.1.1.0 there.1.1.1.0;
      run_extra_args = said keys.RunExtraArgs false (list_of a_text) q arguments_in
          (get (key_text keys.RunExtraArgs) es) arguments_say runs.1.1.1.1.0 there.1.1.1.1.0;
      status_level = leaf_said keys.StatusLevel false status_level_at q (get (key_text keys.StatusLevel) es)
          outputs.0 shown.0;
      final_status_level = leaf_said keys.FinalStatusLevel false final_status_level_at q
          (get (key_text keys.FinalStatusLevel) es) outputs.1.0 shown.1.0;
      failure_output = leaf_said keys.FailureOutput false test_output_display_at q
          (get (key_text keys.FailureOutput) es) outputs.1.1.0 shown.1.1.0;
      success_output = leaf_said keys.SuccessOutput false test_output_display_at q
          (get (key_text keys.SuccessOutput) es) outputs.1.1.1.0 shown.1.1.1.0;
      max_fail = said keys.FailFast false a_max_fail q max_fail_in (get (key_text keys.FailFast) es) max_fail_says
          ends.0 ended.0;
      slow_timeout = said keys.SlowTimeout false slow_timeout q slow_in (get (key_text keys.SlowTimeout) es) slow_says
          ends.1.0 ended.1.0;
      global_timeout = said keys.GlobalTimeout false a_duration q global_in (get (key_text keys.GlobalTimeout) es)
          global_says ends.1.1.0 ended.1.1.0;
      leak_timeout = said keys.LeakTimeout false leak_timeout q leak_in (get (key_text keys.LeakTimeout) es) leak_says
          ends.1.1.1.0 ended.1.1.1.0;
      report_name = report.report_name;
      store_success_output = report.store_success_output;
      store_failure_output = report.store_failure_output;
      report_skipped = report.report_skipped;
      flaky_fail_status = report.flaky_fail_status;
      bench_slow_timeout = bench.slow_timeout;
      bench_global_timeout = bench.global_timeout;
    }
profile_says q (array ns) h g = absurd g
profile_says q (text t) h g = absurd g
profile_says q (int z) h g = absurd g
profile_says q (bool b) h g = absurd g
profile_says q opaque h g = absurd g

-- the profile of a name, in a table of profiles without a fault
record HasProfile (o : Option ProfileText) : Type 0 where
  profile : ProfileText
  there : o ≡ Some profile
  complete : IsComplete profile.fields

entry_says : (p : List ℕ) (es : Entries) (o : Option Node) → get default_name es ≡ o
    → faults (map_of any_key a_profile) p (table es) ≡ [] → IsSomeAnd o (Keeps profile_form)
    → HasProfile (option_map profile_text o)
entry_says p es (Some n) is h g =
    let free = entry_free any_key a_profile p default_name es n h is in
    record { profile = profile_text n; there = refl; complete = profile_says free.0 n free.1 g }
entry_says p es None is h g = absurd g

profiles_say : (q : List ℕ) (n : Node) → faults (map_of any_key a_profile) q n ≡ [] → Keeps profiles_form n
    → HasProfile (at_name default_name (each_in profile_text (unwrap_or (as_table n) no_entries)))
profiles_say q (table es) h g =
    rw (at_each profile_text default_name es) (entry_says q es (get default_name es) refl h g.0)
profiles_say q (array ns) h g = absurd g
profiles_say q (text t) h g = absurd g
profiles_say q (int z) h g = absurd g
profiles_say q (bool b) h g = absurd g
profiles_say q opaque h g = absurd g

profiles_at : (o : Option Node) → field_faults keys.Profile true (faults (map_of any_key a_profile)) [] o ≡ []
    → IsSomeAnd o (Keeps profiles_form)
    → HasProfile (at_name default_name (each_in profile_text (unwrap_or (option_and_then as_table o) no_entries)))
unfolding field_faults
profiles_at (Some n) h g = profiles_say _ n h g
profiles_at None h g = absurd g

-- a file without a fault, of the form of the defaults, has a complete profile `default`
file_says : (n : Node) → faults a_file [] n ≡ [] → Keeps file_form n → HasCompleteDefault (file_text n)
unfolding a_file
file_says (table es) h g =
    let free = struct_free file_fields [] es h in
    let found = profiles_at (get (key_text keys.Profile) es) free.1.1.1.1.1.1.0 g.0 in
    record { profile = found.profile; there = found.there; complete = found.complete }
file_says (array ns) h g = absurd g
file_says (text t) h g = absurd g
file_says (int z) h g = absurd g
file_says (bool b) h g = absurd g
file_says opaque h g = absurd g

-- sources that are accepted have no fault over the defaults
readable : {M K P : Type 0} (engines : Readings M K P) (features : Features) (all below ss : List SourceText)
    → EachOver (IsAcceptedSource engines features) all → all ≡ below ++ ss
    → AllByRecursion IsReadable (map tree_in ss)
readable engines features all below [] each is = tt
readable engines features all below (s ∷ ss) each is =
    let accepted = each below s ss is in (
      accepted.elements,
      readable engines features all (below ++ s ∷ []) ss each
          (is ∙ sym (append_assoc below (s ∷ []) ss)),
    )

-- the merged tree of files that a load accepts has a complete profile `default`
pub accepted_complete : {M K P : Type 0} (engines : Readings M K P) (features : Features) (files : LoadInputs)
    → IsAccepted engines features files → HasCompleteDefault (merged_file (sources_in files))
accepted_complete engines features files accepted =
    let ss = sources_in files in
    let made : IsMergedTree (map tree_in ss) (merged_tree ss) =
    (readable engines features ss [] ss accepted.sources refl, refl) in
    file_says (merged_tree ss) accepted.merged_elements (merged_form (map tree_in ss) (merged_tree ss) made)
