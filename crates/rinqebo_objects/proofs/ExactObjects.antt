-- The objects of a profile nest little, and have no number that is a float.
use Rattle.std.proofs.Common.{◌≡◌, ◌≤◌, ◌+◌, ℕ, ℤ, pos, negsuc, false, List, [], Option, None, Some, string_bytes, codes, map, refl, subst, sym, arith}
use Rattle.nextest_elements.specs.declared.global_timeout.GlobalTimeout.{GlobalTimeout}
use Rattle.nextest_elements.specs.declared.junit.JunitConfig.{JunitConfig}
use Rattle.nextest_elements.specs.declared.leak_timeout.LeakTimeout.{LeakTimeout}
use Rattle.nextest_elements.specs.declared.max_fail.MaxFail.{MaxFail}
use Rattle.nextest_elements.specs.declared.max_fail.MaxFail.TheVariants as limits
use Rattle.nextest_elements.specs.declared.test_group.TestGroupConfig.{TestGroupConfig}
use Rattle.nextest_elements.specs.declared.test_threads.TestThreads.{TestThreads}
use Rattle.nextest_elements.specs.declared.test_threads.TestThreads.TheVariants as threads
use Rattle.nextest_engines.specs.Engines.{Test}
use Rattle.nextest_scripts.specs.ScriptTexts.{CommandText, SetupScriptText, WrapperScriptText}
use Rattle.nextest_scripts.specs.declared.setup_timeout.SetupScriptSlowTimeout.{SetupScriptSlowTimeout}
use Rattle.nextest_settings.specs.Profile.{ProfileFacts}
use Rattle.nextest_sources.specs.Sources.{Source}
use Rattle.nextest_sources.specs.Warnings.{Warning, unknown_keys, reserved_profiles, deprecated_scripts, empty_sections}
use Rattle.nextest_tables.specs.Written.{Name}
use Rattle.rinqebo_report.specs.declared.codes.code.Code.{Code}
use Rattle.rinqebo_objects.specs.Enabling.{test_data}
use Rattle.rinqebo_objects.specs.Origins.{object_origins_data, report_origins_data, run_origins_data, timeout_origins_data, with_bound_origins, with_name_origins, with_output_origins}
use Rattle.rinqebo_objects.specs.Objects.{objects_data, run_data, with_bounds, with_names, with_output}
use Rattle.rinqebo_objects.specs.Scripts.{Directories, command_data, enabling_data, group_data, setup_script_data, wrapper_script_data, variables_data}
use Rattle.rinqebo_objects.specs.Used.{Used, wrappers_used}
use Rattle.rinqebo_objects.specs.Values.{global_timeout_data, leak_data, max_fail_data, optional_data, report_data, slow_data, threads_data}
use Rattle.rinqebo_objects.specs.WarningObjects.{warning_data, warning_of}
use Rattle.rinqebo_objects.specs.declared.origins.BoundOrigins.{BoundOrigins}
use Rattle.rinqebo_objects.specs.declared.origins.GroupOrigins.{GroupOrigins}
use Rattle.rinqebo_objects.specs.declared.origins.NameOrigins.{NameOrigins}
use Rattle.rinqebo_objects.specs.declared.origins.ObjectOrigins.{ObjectOrigins}
use Rattle.rinqebo_objects.specs.declared.origins.OutputOrigins.{OutputOrigins}
use Rattle.rinqebo_objects.specs.declared.origins.RunOrigins.{RunOrigins}
use Rattle.rinqebo_objects.specs.declared.run.RunSettings.{RunSettings}
use Rattle.rinqebo_report.proofs.Exact.{IsExact, AreExact, exact_text, exact_null, exact_truth, exact_list, no_more, and_member, exact_object, exact_put, exact_puts}
use Rattle.rinqebo_report.proofs.ExactDocuments.{deeper, origin}
use Rattle.rinqebo_report.specs.declared.origin.Origin.{Origin}
use Rattle.rinqebo_report.specs.Documents.{count_data, list_data, origin_data}
use Rattle.serde_json.specs.Data.{Data, null, number, string, no_members, Members, depth}
use Rattle.serde_json.specs.Find.{of_integer}
use Rattle.serde_json.specs.Written.{has_float}

optional : {X : Type 0} (n : ℕ) (f : X → Data) → ((x : X) → IsExact n (f x)) → (o : Option X)
    → IsExact n (optional_data f o)
optional n f each None = exact_null n
optional n f each (Some x) = each x

count : (n m : ℕ) → IsExact n (count_data m)
count n m = record { nests = omega arith; whole = refl }

integer : (n : ℕ) (z : ℤ) → IsExact n (number (of_integer z))
integer n (pos m) = record { nests = omega arith; whole = refl }
integer n (negsuc m) = record { nests = omega arith; whole = refl }

threads_are : (n : ℕ) (t : TestThreads) → IsExact n (threads_data t)
threads_are n (threads.Count z) = integer n z
threads_are n threads.NumCpus = exact_text n _

limit : (n : ℕ) (m : MaxFail) → IsExact n (max_fail_data m)
limit n (limits.Count m) = count n m
limit n limits.All = exact_text n _

timeout : (n : ℕ) (a b : GlobalTimeout) → IsExact (n + 1) (global_timeout_data a b)
timeout n a b = exact_object n (and_member _ (exact_text n _) (and_member _ (exact_text n _) (no_more n)))

report : (n : ℕ) (r : JunitConfig) → IsExact (n + 1) (report_data r)
report n r = exact_object n (and_member _ (exact_text n _) (and_member _ (exact_text n _) (no_more n)))

slow : (n : ℕ) (s : SetupScriptSlowTimeout) → IsExact (n + 1) (slow_data s)
slow n s =
    exact_object n (and_member _ (exact_text n _) (and_member _ (exact_text n _)
    (and_member _ (optional n count_data (count n) s.terminate_after) (no_more n))))

leak : (n : ℕ) (l : LeakTimeout) → IsExact (n + 1) (leak_data l)
leak n l = exact_object n (and_member _ (exact_text n _) (and_member _ (exact_text n _) (no_more n)))

texts : (n : ℕ) (xs : List (List ℕ)) → IsExact (n + 1) (list_data string xs)
texts n xs = exact_list n string (exact_text n) xs

variables : (n : ℕ) (vs : List (List ℕ × List ℕ)) → IsExact (n + 1) (variables_data vs)
variables n vs =
    exact_object n (exact_puts n (λ (v : List ℕ × List ℕ). v.0) (λ v. string v.1) (λ v. exact_text n v.1) vs
    no_members (no_more n))

command : (ds : Option Directories) (c : CommandText) → IsExact 2 (command_data ds c)
command ds c =
    exact_object 1 (and_member _ (exact_list 0 string (exact_text 0) c.args)
    (and_member _ (variables 0 c.env) (and_member _ (exact_text 1 _) (and_member _ (exact_text 1 _) (no_more 1)))))

listed : (t : Test) → IsExact 1 (test_data t)
listed t = exact_object 0 (and_member _ (exact_text 0 _) (and_member _ (exact_text 0 _) (no_more 0)))

enabling : (us : Option Used) (id : Name) → IsExact 2 (enabling_data us id)
enabling None id = exact_null 2
enabling (Some used) id = exact_list 1 test_data listed (used.enabling id)

setup : (ds : Option Directories) (us : Option Used) (e : Name × SetupScriptText)
    → IsExact 3 (setup_script_data ds us e)
setup ds us e =
    let junit = exact_object 1 (and_member _ (exact_truth 1 _) (and_member _ (exact_truth 1 _) (no_more 1))) in
    exact_object 2 (and_member _ (exact_truth 2 _) (and_member _ (exact_truth 2 _)
    (and_member _ (command ds e.1.command) (and_member _ (exact_text 2 _)
    (and_member _ junit (and_member _ (optional 2 leak_data (leak 1) e.1.leak_timeout)
    (and_member _ (optional 2 slow_data (slow 1) e.1.slow_timeout)
    (and_member _ (enabling us e.0) (no_more 2)))))))))

wrapper : (ds : Option Directories) (e : List ℕ × WrapperScriptText) → IsExact 3 (wrapper_script_data ds e)
wrapper ds e =
    exact_object 2 (and_member _ (command ds e.1.command) (and_member _ (exact_text 2 _)
    (and_member _ (exact_text 2 _) (no_more 2))))

group : (n : ℕ) (e : Name × Option TestGroupConfig) → IsExact (n + 1) (group_data e)
group n e =
    exact_object n (and_member _
    (optional n (λ (config : TestGroupConfig). threads_data config.max_threads) (λ config. threads_are n config.max_threads) e.1)
    (and_member _ (exact_text n _) (no_more n)))

named : (n : ℕ) {ms : Members} (run : RunSettings) (profiles : List Name) → AreExact (n + 1) ms
    → AreExact (n + 1) (with_names run profiles ms)
named n run profiles h =
    exact_put (codes "run-extra-args") _ _ (texts n (map string_bytes run.run_extra_args.now))
    (exact_put (codes "profiles") _ _ (texts n profiles)
    (exact_put (codes "profile") _ _ (exact_text (n + 1) _)
    (exact_put (codes "inherits") _ _ (optional (n + 1) string (exact_text (n + 1)) _)
    (exact_put (codes "default-filter") _ _ (exact_text (n + 1) _) h))))

shown : (n : ℕ) {ms : Members} (run : RunSettings) → AreExact (n + 1) ms → AreExact (n + 1) (with_output run ms)
shown n run h =
    exact_put (codes "store-dir") _ _ (exact_text (n + 1) _)
    (exact_put (codes "status-level") _ _ (exact_text (n + 1) _)
    (exact_put (codes "junit") _ _ (optional (n + 1) report_data (report n) run.junit)
    (exact_put (codes "final-status-level") _ _ (exact_text (n + 1) _) h)))

bounded : (n : ℕ) {ms : Members} (run : RunSettings) → AreExact (n + 1) ms → AreExact (n + 1) (with_bounds run ms)
bounded n run h =
    exact_put (codes "test-threads") _ _ (threads_are (n + 1) run.test_threads)
    (exact_put (codes "max-fail") _ _ (limit (n + 1) run.max_fail)
    (exact_put (codes "global-timeout") _ _ (timeout n run.global_timeout run.benchmark_timeout) h))

run_is : (run : RunSettings) (profiles : List Name) → IsExact 4 (run_data run profiles)
run_is run profiles = exact_object 3 (bounded 2 run (shown 2 run (named 2 run profiles (no_more 3))))

warned : (code : Code) (source : Source) (names : List (List ℕ)) (profile times : Data) → IsExact 2 profile
    → IsExact 2 times → IsExact 3 (warning_of code source names profile times)
warned code source names profile times p t =
    exact_object 2 (and_member _ (exact_text 2 _) (and_member _ t (and_member _ (exact_text 2 _)
    (and_member _ (texts 1 names) (and_member _ p (no_more 2))))))

warning : (w : Warning) → IsExact 3 (warning_data w)
warning (unknown_keys source paths) = warned _ source paths null null (exact_null 2) (exact_null 2)
warning (reserved_profiles source names) = warned _ source names null null (exact_null 2) (exact_null 2)
warning (deprecated_scripts source) = warned _ source [] null null (exact_null 2) (exact_null 2)
warning (empty_sections source profile times) =
    warned _ source [] (string profile) (count_data times) (exact_text 2 profile) (count 2 times)

origins_are : (os : List Origin) → IsExact 4 (list_data origin_data os)
origins_are os = exact_list 3 origin_data origin os

origins_in : (os : List Origin) → IsExact 5 (list_data origin_data os)
origins_in os = deeper 5 (origins_are os) (omega arith)

timeout_from : (o : BoundOrigins) → IsExact 5 (timeout_origins_data o)
timeout_from o =
    exact_object 4 (and_member _ (origins_are o.benchmark_timeout.items)
    (and_member _ (origins_are o.global_timeout.items) (no_more 4)))

report_from : (o : OutputOrigins) → IsExact 5 (report_origins_data o)
report_from o =
    exact_object 4 (and_member _ (origins_are o.report_path.items)
    (and_member _ (origins_are o.report_name.items) (no_more 4)))

named_from : {ms : Members} (o : NameOrigins) → AreExact 5 ms → AreExact 5 (with_name_origins o ms)
named_from o h =
    exact_put (codes "run-extra-args") _ _ (origins_in o.run_extra_args.items)
    (exact_put (codes "inherits") _ _ (origins_in o.inherits.items)
    (exact_put (codes "default-filter") _ _ (origins_in o.default_filter.items) h))

shown_from : {ms : Members} (o : OutputOrigins) → AreExact 5 ms → AreExact 5 (with_output_origins o ms)
shown_from o h =
    exact_put (codes "store-dir") _ _ (origins_in o.store_dir.items)
    (exact_put (codes "status-level") _ _ (origins_in o.status_level.items)
    (exact_put (codes "junit") _ _ (report_from o)
    (exact_put (codes "final-status-level") _ _ (origins_in o.final_status_level.items) h)))

bounded_from : {ms : Members} (o : BoundOrigins) → AreExact 5 ms → AreExact 5 (with_bound_origins o ms)
bounded_from o h =
    exact_put (codes "test-threads") _ _ (origins_in o.test_threads.items)
    (exact_put (codes "max-fail") _ _ (origins_in o.max_fail.items)
    (exact_put (codes "global-timeout") _ _ (timeout_from o) h))

run_from : (o : RunOrigins) → IsExact 6 (run_origins_data o)
run_from o = exact_object 5 (bounded_from o.bounds (shown_from o.output (named_from o.names (no_more 5))))

object_from : (o : ObjectOrigins) → IsExact 7 (object_origins_data o)
object_from o =
    let groups = exact_object 5
    (exact_puts 5 (λ (g : GroupOrigins). string_bytes g.name) (λ g. list_data origin_data g.origins.items)
    (λ g. origins_in g.origins.items) o.groups.items no_members (no_more 5)) in
    exact_object 6 (and_member _ groups (and_member _ (run_from o.run) (no_more 6)))

objects : (facts : ProfileFacts) (run : RunSettings) (profiles : List Name) (ws : List Warning) (ds : Option Directories)
    (us : Option Used) (os : Option ObjectOrigins) → IsExact 8 (objects_data facts run profiles ws ds us os)
objects facts run profiles ws ds us os =
    exact_object 7 (and_member _ (exact_list 6 warning_data (λ w. deeper 6 (warning w) (omega arith)) ws)
    (and_member _ (exact_list 6 group_data (group 5) facts.groups)
    (and_member _ (optional 7 object_origins_data object_from os)
    (and_member _ (deeper 7 (run_is run profiles) (omega arith))
    (and_member _ (exact_list 6 (setup_script_data ds us) (λ e. deeper 6 (setup ds us e) (omega arith)) facts.scripts.setup)
    (and_member _ (exact_list 6 (wrapper_script_data ds) (λ e. deeper 6 (wrapper ds e) (omega arith))
    (wrappers_used us facts.scripts.wrapper))
    (no_more 7)))))))

pub objects_nest : (facts : ProfileFacts) (run : RunSettings) (profiles : List Name) (ws : List Warning)
    (ds : Option Directories) (us : Option Used) (os : Option ObjectOrigins) (value : Data)
    → value ≡ objects_data facts run profiles ws ds us os → depth value ≤ 8
objects_nest facts run profiles ws ds us os value same =
    subst (λ (d : Data). depth d ≤ 8) (sym same) (objects facts run profiles ws ds us os).nests

pub objects_are_whole : (facts : ProfileFacts) (run : RunSettings) (profiles : List Name) (ws : List Warning)
    (ds : Option Directories) (us : Option Used) (os : Option ObjectOrigins) (value : Data)
    → value ≡ objects_data facts run profiles ws ds us os → has_float value ≡ false
objects_are_whole facts run profiles ws ds us os value same =
    subst (λ (d : Data). has_float d ≡ false) (sym same) (objects facts run profiles ws ds us os).whole
