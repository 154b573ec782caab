-- What the readers' values show of their nodes, one kind of value after another.
use Rattle.std.proofs.Common.{◌≡◌, false, List, [], ◌∷◌, map, Option, Some, None, option_map, option_and_then, Result, Ok, String, Global, Vec, string_bytes, refl, sym}
use Rattle.std.specs.Result.{result_ok}
use Rattle.nextest_tree.specs.declared.key.Key.TheVariants as keys
use Rattle.nextest_elements.specs.declared.bench.BenchConfig.{BenchConfig}
use Rattle.nextest_elements.specs.declared.bench.BenchOverride.{BenchOverride}
use Rattle.nextest_elements.specs.declared.global_timeout.GlobalTimeout.{GlobalTimeout}
use Rattle.nextest_elements.specs.declared.junit.JunitImpl.{JunitImpl}
use Rattle.nextest_elements.specs.declared.junit.JunitOverride.{JunitOverride}
use Rattle.nextest_elements.specs.declared.leak_timeout.LeakTimeout.{LeakTimeout}
use Rattle.nextest_elements.specs.declared.max_fail.MaxFail.{MaxFail}
use Rattle.nextest_elements.specs.declared.retry_policy.RetryPolicy.{RetryPolicy}
use Rattle.nextest_elements.specs.declared.retry_policy.RetryPolicy.TheVariants as policies
use Rattle.nextest_elements.specs.declared.slow_timeout.SlowTimeout.{SlowTimeout}
use Rattle.nextest_elements.specs.declared.test_priority.TestPriority.{TestPriority}
use Rattle.nextest_tree.specs.Key.{key_text}
use Rattle.nextest_tree.specs.Node.{Node, table, array, text, int, bool, opaque, Nodes, no_nodes, node, Entries, get, as_text}
use Rattle.nextest_tree.specs.Reads.{IsOptional, IsList, InTable}
use Rattle.nextest_tree.specs.Leaf.{IsText, Spells, leaf_at}
use Rattle.nextest_tree.specs.Schema.{FaultCause}
use Rattle.nextest_elements.specs.Nanoseconds.{duration_at}
use Rattle.nextest_elements.specs.Bench.{IsBench, IsBenchOverride}
use Rattle.nextest_elements.specs.GlobalTimeout.{IsGlobalTimeout}
use Rattle.nextest_elements.specs.Junit.{IsJunit, IsJunitOverride}
use Rattle.nextest_elements.specs.LeakTimeout.{leak_of, IsLeakTimeout}
use Rattle.nextest_elements.specs.MaxFail.{limit_at, IsMaxFail}
use Rattle.nextest_elements.specs.RetryPolicy.{count_at, IsRetry}
use Rattle.nextest_elements.specs.SlowTimeout.{slow_of, IsSlowTimeout}
use Rattle.nextest_elements.specs.TestPriority.{priority_at}
use Rattle.nextest_elements.proofs.Retries.{retry_by_fields}
use Rattle.nextest_tables.specs.Values.{AreTexts}
use Rattle.nextest_tables.specs.Texts.{texts_in, arguments_in, policy_in, priority_in, slow_in, leak_in, global_in, max_fail_in, report_in, report_table, report_override_in, report_override_table, bench_in, bench_table, bench_override_in, bench_override_table}
use Rattle.nextest_tables.specs.View.{report_view}

-- what each value shows, a value that may be absent shows
pub seen_at : {X Y : Type 0} (P : Node → X → Type 0) (show : X → Y) (f : Node → Option Y)
    → ((n : Node) (x : X) → P n x → Some (show x) ≡ f n)
    → (o : Option Node) (x : Option X) → IsOptional P o x → option_map show x ≡ option_and_then f o
seen_at P show f each None None h = refl
seen_at P show f each (Some n) (Some x) h = each n x h
seen_at P show f each None (Some x) h = absurd h
seen_at P show f each (Some n) None h = absurd h

-- so does a value that is its own view
pub same_at : {X : Type 0} (P : Node → X → Type 0) (f : Node → Option X) → ((n : Node) (x : X) → P n x → Some x ≡ f n)
    → (o : Option Node) (x : Option X) → IsOptional P o x → x ≡ option_and_then f o
same_at P f each None None h = refl
same_at P f each (Some n) (Some x) h = each n x h
same_at P f each None (Some x) h = absurd h
same_at P f each (Some n) None h = absurd h

-- what is read of a table is seen of a table alone
pub in_table : {X Y : Type 0} (P : Entries → X → Type 0) (show : X → Y) (f : Node → Y)
    → ((es : Entries) (x : X) → P es x → show x ≡ f (table es))
    → (n : Node) (x : X) → InTable P n x → show x ≡ f n
in_table P show f each (table es) x h = each es x h
in_table P show f each (array ns) x h = absurd h
in_table P show f each (text t) x h = absurd h
in_table P show f each (int z) x h = absurd h
in_table P show f each (bool b) x h = absurd h
in_table P show f each opaque x h = absurd h

-- a value that is a leaf
pub leaf_seen : {X : Type 0} (read : Node → Result X FaultCause) (o : Option Node) (x : Option X)
    → IsOptional (Spells read) o x → x ≡ leaf_at read o
leaf_seen read None None h = refl
leaf_seen read (Some n) (Some x) h = rw h refl
leaf_seen read None (Some x) h = absurd h
leaf_seen read (Some n) None h = absurd h

-- a value that is made of what a leaf spells
by_leaf : {A X E : Type 0} (made : A → X) (r : Result A E) (x : X) → (a : A) × (r ≡ Ok a) × (x ≡ made a)
    → Some x ≡ option_map made (result_ok r)
by_leaf made r x h = rw (h.1, h.2) refl

one_text : (n : Node) (s : String Global) → IsText n s → Some (string_bytes s) ≡ as_text n
one_text (text t) s h = cc
one_text (table es) s h = cc
one_text (array ns) s h = cc
one_text (int z) s h = cc
one_text (bool b) s h = cc
one_text opaque s h = cc

pub text_seen : (o : Option Node) (x : Option (String Global)) → IsOptional IsText o x
    → option_map string_bytes x ≡ option_and_then as_text o
text_seen o x h = seen_at IsText string_bytes as_text one_text o x h

texts_are : (ns : Nodes) (xs : List (String Global)) → IsList IsText ns xs → Some (map string_bytes xs) ≡ texts_in ns
texts_are no_nodes [] h = refl
texts_are (node n ns) (x ∷ xs) h = let t = one_text n x h.0 in let ts = texts_are ns xs h.1 in rw (← t, ← ts) refl
texts_are no_nodes (x ∷ xs) h = absurd h
texts_are (node n ns) [] h = absurd h

one_list : (n : Node) (v : Vec (String Global) Global) → AreTexts n v → Some (map string_bytes v.items) ≡ arguments_in n
one_list (array ns) v h = texts_are ns v.items h
one_list (table es) v h = absurd h
one_list (text t) v h = absurd h
one_list (int z) v h = absurd h
one_list (bool b) v h = absurd h
one_list opaque v h = absurd h

pub arguments_seen : (o : Option Node) (x : Option (Vec (String Global) Global)) → IsOptional AreTexts o x
    → option_map (λ v. map string_bytes v.items) x ≡ option_and_then arguments_in o
arguments_seen o x h = seen_at AreTexts (λ v. map string_bytes v.items) arguments_in one_list o x h

pub priority_seen : (o : Option Node) (x : Option TestPriority)
    → IsOptional (λ n p. priority_at n ≡ Ok p.0) o x → x ≡ option_and_then priority_in o
priority_seen None None h = refl
priority_seen (Some n) (Some p) h = rw h refl
priority_seen None (Some p) h = absurd h
priority_seen (Some n) None h = absurd h

one_policy : (n : Node) (p : RetryPolicy) → IsRetry n p → Some p ≡ policy_in n
one_policy (table es) p h = sym (retry_by_fields es p h)
one_policy (text t) p h = by_leaf (λ count. policies.Fixed count 0 false) (count_at (text t)) p h
one_policy (array ns) p h = by_leaf (λ count. policies.Fixed count 0 false) (count_at (array ns)) p h
one_policy (int z) p h = by_leaf (λ count. policies.Fixed count 0 false) (count_at (int z)) p h
one_policy (bool b) p h = by_leaf (λ count. policies.Fixed count 0 false) (count_at (bool b)) p h
one_policy opaque p h = by_leaf (λ count. policies.Fixed count 0 false) (count_at opaque) p h

pub policy_seen : (o : Option Node) (x : Option RetryPolicy) → IsOptional IsRetry o x → x ≡ option_and_then policy_in o
policy_seen o x h = same_at IsRetry policy_in one_policy o x h

one_slow : (n : Node) (x : SlowTimeout) → IsSlowTimeout n x → Some x ≡ slow_in n
one_slow (table es) x h = sym h
one_slow (text t) x h = by_leaf slow_of (duration_at (text t)) x h
one_slow (array ns) x h = by_leaf slow_of (duration_at (array ns)) x h
one_slow (int z) x h = by_leaf slow_of (duration_at (int z)) x h
one_slow (bool b) x h = by_leaf slow_of (duration_at (bool b)) x h
one_slow opaque x h = by_leaf slow_of (duration_at opaque) x h

pub slow_seen : (o : Option Node) (x : Option SlowTimeout) → IsOptional IsSlowTimeout o x
    → x ≡ option_and_then slow_in o
slow_seen o x h = same_at IsSlowTimeout slow_in one_slow o x h

one_leak : (n : Node) (x : LeakTimeout) → IsLeakTimeout n x → Some x ≡ leak_in n
one_leak (table es) x h = sym h
one_leak (text t) x h = by_leaf leak_of (duration_at (text t)) x h
one_leak (array ns) x h = by_leaf leak_of (duration_at (array ns)) x h
one_leak (int z) x h = by_leaf leak_of (duration_at (int z)) x h
one_leak (bool b) x h = by_leaf leak_of (duration_at (bool b)) x h
one_leak opaque x h = by_leaf leak_of (duration_at opaque) x h

pub leak_seen : (o : Option Node) (x : Option LeakTimeout) → IsOptional IsLeakTimeout o x
    → x ≡ option_and_then leak_in o
leak_seen o x h = same_at IsLeakTimeout leak_in one_leak o x h

one_global : (n : Node) (x : GlobalTimeout) → IsGlobalTimeout n x → Some x ≡ global_in n
one_global n x h = rw h refl

pub global_seen : (o : Option Node) (x : Option GlobalTimeout) → IsOptional IsGlobalTimeout o x
    → x ≡ option_and_then global_in o
global_seen o x h = same_at IsGlobalTimeout global_in one_global o x h

one_max_fail : (n : Node) (x : MaxFail) → IsMaxFail n x → Some x ≡ max_fail_in n
one_max_fail (bool b) x h = λ i. Some (h i)
one_max_fail (table es) x h = leaf_seen limit_at (get (key_text keys.MaxFail) es) (Some x) h
one_max_fail (text t) x h = absurd h
one_max_fail (array ns) x h = absurd h
one_max_fail (int z) x h = absurd h
one_max_fail opaque x h = absurd h

pub max_fail_seen : (o : Option Node) (x : Option MaxFail) → IsOptional IsMaxFail o x
    → x ≡ option_and_then max_fail_in o
max_fail_seen o x h = same_at IsMaxFail max_fail_in one_max_fail o x h

report_is : (es : Entries) (x : JunitImpl) → IsJunit es x → Some (report_view x) ≡ Some (report_table es)
report_is es x h =
    let a = text_seen (get (key_text keys.Path) es) x.path h.path in
    let b = text_seen (get (key_text keys.ReportName) es) x.report_name h.report_name in
    let c = leaf_seen _ (get (key_text keys.StoreSuccessOutput) es) x.store_success_output h.store_success_output in
    let d = leaf_seen _ (get (key_text keys.StoreFailureOutput) es) x.store_failure_output h.store_failure_output in
    let e = leaf_seen _ (get (key_text keys.ReportSkipped) es) x.report_skipped h.report_skipped in
    let f = leaf_seen _ (get (key_text keys.FlakyFailStatus) es) x.flaky_fail_status h.flaky_fail_status in
    rw (a, b, c, d, e, f) refl

pub report_seen : (o : Option Node) (x : Option JunitImpl) → IsOptional (InTable IsJunit) o x
    → option_map report_view x ≡ option_and_then report_in o
report_seen o x h = seen_at (InTable IsJunit) report_view report_in
    (in_table IsJunit (λ x. Some (report_view x)) report_in report_is) o x h

report_override_is : (es : Entries) (x : JunitOverride) → IsJunitOverride es x
    → Some x ≡ Some (report_override_table es)
report_override_is es x h =
    let c = leaf_seen _ (get (key_text keys.StoreSuccessOutput) es) x.store_success_output h.store_success_output in
    let d = leaf_seen _ (get (key_text keys.StoreFailureOutput) es) x.store_failure_output h.store_failure_output in
    let e = leaf_seen _ (get (key_text keys.ReportSkipped) es) x.report_skipped h.report_skipped in
    let f = leaf_seen _ (get (key_text keys.FlakyFailStatus) es) x.flaky_fail_status h.flaky_fail_status in
    λ i. Some (record {
      store_success_output = c i;
      store_failure_output = d i;
      report_skipped =
          e i;
      flaky_fail_status = f i;
    })

pub report_override_seen : (o : Option Node) (x : Option JunitOverride)
    → IsOptional (InTable IsJunitOverride) o x → x ≡ option_and_then report_override_in o
report_override_seen o x h =
    same_at (InTable IsJunitOverride) report_override_in
    (in_table IsJunitOverride (λ x. Some x) report_override_in report_override_is) o x h

bench_is : (es : Entries) (x : BenchConfig) → IsBench es x → Some x ≡ Some (bench_table es)
bench_is es x h =
    let s = slow_seen (get (key_text keys.SlowTimeout) es) x.slow_timeout h.slow_timeout in
    let g = global_seen (get (key_text keys.GlobalTimeout) es) x.global_timeout h.global_timeout in
    λ i. Some (record { slow_timeout = s i; global_timeout = g i })

pub bench_seen : (o : Option Node) (x : Option BenchConfig) → IsOptional (InTable IsBench) o x
    → x ≡ option_and_then bench_in o
bench_seen o x h = same_at (InTable IsBench) bench_in (in_table IsBench (λ x. Some x) bench_in bench_is) o x h

bench_override_is : (es : Entries) (x : BenchOverride) → IsBenchOverride es x → Some x ≡ Some (bench_override_table es)
bench_override_is es x h =
    let s = slow_seen (get (key_text keys.SlowTimeout) es) x.slow_timeout h in
    λ i. Some (record { slow_timeout = s i })

pub bench_override_seen : (o : Option Node) (x : Option BenchOverride)
    → IsOptional (InTable IsBenchOverride) o x → x ≡ option_and_then bench_override_in o
bench_override_seen o x h =
    same_at (InTable IsBenchOverride) bench_override_in
    (in_table IsBenchOverride (λ x. Some x) bench_override_in bench_override_is) o x h
