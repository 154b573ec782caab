-- What the tables that were read show of their trees.
use Rattle.std.proofs.Common.{◌≡◌, ℕ, List, [], ◌∷◌, map, Option, Some, None, option_map, option_and_then, unwrap_or, string_bytes, refl, sym, ap, ◌∙◌}
use Rattle.nextest_tree.specs.declared.key.Key.{Key}
use Rattle.nextest_tree.specs.declared.key.Key.TheVariants as keys
use Rattle.nextest_tree.specs.Key.{key_text}
use Rattle.nextest_tree.specs.Node.{Node, table, array, text, int, bool, opaque, Nodes, no_nodes, node, Entries, no_entries, entry, get, as_text, as_table}
use Rattle.nextest_tree.specs.Node as nodes
use Rattle.nextest_tree.specs.Reads.{IsOptional, IsList, IsMap, InTable}
use Rattle.nextest_elements.specs.TestGroup.{IsGroupTable, custom_group_text}
use Rattle.nextest_scripts.specs.ScriptId.{script_text}
use Rattle.nextest_scripts.specs.ScriptIdReader.{IsScriptId}
use Rattle.nextest_scripts.specs.declared.script_id.ScriptId.{ScriptId}
use Rattle.nextest_tables.specs.FileTexts.{each_node, override_text, script_rule_text, profile_text, file_text}
use Rattle.nextest_tables.specs.Values.{nodes_under, IsOverride, IsScriptRule, IsProfile, IsFile}
use Rattle.nextest_tables.specs.Texts.{group_in, each_in, entries_at, settings_in, fields_in}
use Rattle.nextest_tables.specs.View.{settings_view, fields_view, override_view, script_rule_table_view, profile_view, file_table_view}
use Rattle.nextest_tables.specs.declared.file_table.FileTable.{FileTable}
use Rattle.nextest_tables.specs.declared.override_table.OverrideTable.{OverrideTable}
use Rattle.nextest_tables.specs.declared.profile_table.ProfileTable.{ProfileTable}
use Rattle.nextest_tables.specs.declared.script_rule_table.ScriptRuleTable.{ScriptRuleTable}
use Rattle.nextest_tables.proofs.Ids.{id_text}
use Rattle.nextest_tables.proofs.Values.{seen_at, in_table, leaf_seen, text_seen, arguments_seen, priority_seen, policy_seen, slow_seen, leak_seen, global_seen, max_fail_seen, report_seen, report_override_seen, bench_seen, bench_override_seen}

-- lists and maps of what is read of tables
list_is : {X Y : Type 0} (P : Entries → X → Type 0) (show : X → Y) (f : Node → Y)
    → ((es : Entries) (x : X) → P es x → show x ≡ f (table es))
    → (ns : Nodes) (xs : List X) → IsList (InTable P) ns xs → map show xs ≡ each_node f ns
list_is P show f each no_nodes [] h = refl
list_is P show f each (node n ns) (x ∷ xs) h = let e = in_table P show f each n x h.0 in let es =
    list_is P show f each ns xs h.1 in λ i. e i ∷ es i
list_is P show f each no_nodes (x ∷ xs) h = absurd h
list_is P show f each (node n ns) [] h = absurd h

map_is : {K X Y : Type 0} (t : K → List ℕ) (P : Entries → X → Type 0) (show : X → Y) (f : Node → Y)
    → ((es : Entries) (x : X) → P es x → show x ≡ f (table es))
    → (es : Entries) (xs : List (K × X)) → IsMap t (InTable P) es xs → map (λ e. (t e.0, show e.1)) xs ≡ each_in f es
map_is t P show f each no_entries [] h = refl
map_is t P show f each (entry k n es) (x ∷ xs) h = let e = in_table P show f each n x.1 h.1 in let more =
    map_is t P show f each es xs h.2 in rw (h.0, e, more) refl
map_is t P show f each no_entries (x ∷ xs) h = absurd h
map_is t P show f each (entry k n es) [] h = absurd h

keys_are : {K X : Type 0} (t : K → List ℕ) (P : Node → X → Type 0) (es : Entries) (xs : List (K × X))
    → IsMap t P es xs → map (λ e. t e.0) xs ≡ nodes.keys es
keys_are t P no_entries [] h = refl
keys_are t P (entry k n es) (x ∷ xs) h = let more = keys_are t P es xs h.2 in rw (h.0, more) refl
keys_are t P no_entries (x ∷ xs) h = absurd h
keys_are t P (entry k n es) [] h = absurd h

-- an override
settings_are : (es : Entries) (x : OverrideTable) → IsOverride es x → settings_view x.settings ≡ settings_in (table es)
settings_are es x h =
    let priority = priority_seen (get (key_text keys.Priority) es) x.settings.priority h.priority in
    let threads_required = leaf_seen _ (get (key_text keys.ThreadsRequired) es)
    x.settings.runs.threads_required h.runs.threads_required in
    let run_extra_args = arguments_seen (get (key_text keys.RunExtraArgs) es) x.settings.runs.run_extra_args
    h.runs.run_extra_args in
    let retries = policy_seen (get (key_text keys.Retries) es) x.settings.runs.retries h.runs.retries in
    let flaky_result = leaf_seen _ (get (key_text keys.FlakyResult) es) x.settings.runs.flaky_result
    h.runs.flaky_result in
    let slow_timeout = slow_seen (get (key_text keys.SlowTimeout) es) x.settings.runs.slow_timeout
    h.runs.slow_timeout in
    let leak_timeout = leak_seen (get (key_text keys.LeakTimeout) es) x.settings.runs.leak_timeout
    h.runs.leak_timeout in
    let test_group = leaf_seen _ (get (key_text keys.TestGroup) es) x.settings.outputs.test_group
    h.outputs.test_group in
    let success_output = leaf_seen _ (get (key_text keys.SuccessOutput) es) x.settings.outputs.success_output
    h.outputs.success_output in
    let failure_output = leaf_seen _ (get (key_text keys.FailureOutput) es) x.settings.outputs.failure_output
    h.outputs.failure_output in
    let junit = report_override_seen (get (key_text keys.Junit) es) x.settings.outputs.junit h.outputs.junit in
    let bench = bench_override_seen (get (key_text keys.Bench) es) x.settings.outputs.bench h.outputs.bench in
    λ i. record {
      priority = priority i;
      threads_required = threads_required i;
      run_extra_args = run_extra_args i;
      retries = retries i;
      flaky_result = flaky_result i;
      slow_timeout = slow_timeout i;
      leak_timeout = leak_timeout i;
      test_group = test_group i;
      success_output = success_output i;
      failure_output = failure_output i;
      junit = junit i;
      bench = bench i;
    }

override_is : (es : Entries) (x : OverrideTable) → IsOverride es x → override_view x ≡ override_text (table es)
override_is es x h =
    let platform = h.platform in
    let filter = text_seen (get (key_text keys.Filter) es) x.filter h.filter in
    let default_filter = text_seen (get (key_text keys.DefaultFilter) es) x.default_filter h.default_filter in
    let settings = settings_are es x h in
    λ i. record { platform = platform i; filter = filter i; default_filter = default_filter i; settings = settings i }

-- a script rule
id_seen : (o : Option Node) (x : Option ScriptId) → IsOptional IsScriptId o x
    → option_map script_text x ≡ option_and_then as_text o
id_seen o x h = seen_at IsScriptId script_text as_text id_text o x h

script_rule_is : (es : Entries) (x : ScriptRuleTable) → IsScriptRule es x
    → script_rule_table_view x ≡ script_rule_text (table es)
script_rule_is es x h =
    let platform = h.platform in
    let filter = text_seen (get (key_text keys.Filter) es) x.filter h.filter in
    let setup = h.setup in
    let list_wrapper = id_seen (get (key_text keys.ListWrapper) es) x.scripts.list_wrapper h.list_wrapper in
    let run_wrapper = id_seen (get (key_text keys.RunWrapper) es) x.scripts.run_wrapper h.run_wrapper in
    λ i. record {
      platform = platform i;
      filter = filter i;
      scripts =
          record { setup = setup i; list_wrapper = list_wrapper i; run_wrapper = run_wrapper i };
    }

-- a profile
fields_are : (es : Entries) (x : ProfileTable) → IsProfile es x → fields_view x.fields ≡ fields_in (table es)
fields_are es x h =
    let retries = policy_seen (get (key_text keys.Retries) es) x.fields.runs.retries h.runs.retries in
    let flaky_result = leaf_seen _ (get (key_text keys.FlakyResult) es) x.fields.runs.flaky_result
    h.runs.flaky_result in
    let test_threads = leaf_seen _ (get (key_text keys.TestThreads) es) x.fields.runs.test_threads
    h.runs.test_threads in
    let threads_required = leaf_seen _ (get (key_text keys.ThreadsRequired) es) x.fields.runs.threads_required
    h.runs.threads_required in
    let run_extra_args = arguments_seen (get (key_text keys.RunExtraArgs) es) x.fields.runs.run_extra_args
    h.runs.run_extra_args in
    let status_level = leaf_seen _ (get (key_text keys.StatusLevel) es) x.fields.outputs.status_level
    h.outputs.status_level in
    let final_status_level = leaf_seen _ (get (key_text keys.FinalStatusLevel) es)
    x.fields.outputs.final_status_level h.outputs.final_status_level in
    let failure_output = leaf_seen _ (get (key_text keys.FailureOutput) es) x.fields.outputs.failure_output
    h.outputs.failure_output in
    let success_output = leaf_seen _ (get (key_text keys.SuccessOutput) es) x.fields.outputs.success_output
    h.outputs.success_output in
    let max_fail = max_fail_seen (get (key_text keys.FailFast) es) x.fields.ends.max_fail h.ends.max_fail in
    let slow_timeout = slow_seen (get (key_text keys.SlowTimeout) es) x.fields.ends.slow_timeout h.ends.slow_timeout in
    let global_timeout = global_seen (get (key_text keys.GlobalTimeout) es) x.fields.ends.global_timeout
    h.ends.global_timeout in
    let leak_timeout = leak_seen (get (key_text keys.LeakTimeout) es) x.fields.ends.leak_timeout h.ends.leak_timeout in
    let junit = report_seen (get (key_text keys.Junit) es) x.fields.junit h.junit in
    let bench = bench_seen (get (key_text keys.Bench) es) x.fields.bench h.bench in
    λ i. record {
      retries = retries i;
      flaky_result = flaky_result i;
      test_threads = test_threads i;
      threads_required = threads_required i;
      run_extra_args = run_extra_args i;
      status_level = status_level i;
      final_status_level = final_status_level i;
      failure_output = failure_output i;
      success_output = success_output i;
      max_fail = max_fail i;
      slow_timeout = slow_timeout i;
      global_timeout = global_timeout i;
      leak_timeout = leak_timeout i;
      junit = junit i;
      bench = bench i;
    }

profile_is : (es : Entries) (x : ProfileTable) → IsProfile es x → profile_view x ≡ profile_text (table es)
profile_is es x h =
    let parent = text_seen (get (key_text keys.Inherits) es) x.inherits h.inherits in
    let default_filter = text_seen (get (key_text keys.DefaultFilter) es) x.default_filter h.default_filter in
    let fields = fields_are es x h in
    let overrides = list_is IsOverride override_view override_text override_is _ x.overrides.items h.overrides in
    let script_rules = list_is IsScriptRule script_rule_table_view script_rule_text script_rule_is _
    x.scripts.items h.scripts in
    λ i. record {
      parent = parent i;
      default_filter = default_filter i;
      fields = fields i;
      overrides =
          overrides i;
      script_rules = script_rules i;
    }

-- what is at a key of the table of scripts
pub under_scripts : (k : Key) (o : Option Node)
    → nodes_under k (unwrap_or (option_and_then as_table o) no_entries) ≡ entries_at k (unwrap_or o (table no_entries))
under_scripts k None = refl
under_scripts k (Some (table es)) = refl
under_scripts k (Some (array ns)) = refl
under_scripts k (Some (text s)) = refl
under_scripts k (Some (int z)) = refl
under_scripts k (Some (bool b)) = refl
under_scripts k (Some opaque) = refl

-- a whole file
whole_is : (es : Entries) (x : FileTable) → IsFile es x → file_table_view x ≡ file_text (table es)
whole_is es x h =
    let scripts = get (key_text keys.Scripts) es in
    let store_dir = h.store_dir in
    let groups = map_is custom_group_text IsGroupTable (λ x. Some x) group_in (λ es x h. sym h) _
    x.test_groups.entries h.test_groups in
    let new_setup = keys_are script_text _ _ x.scripts.setup.entries h.scripts.setup
    ∙ ap nodes.keys (under_scripts keys.Setup scripts) in
    let old_setup = keys_are script_text _ _ x.script.entries h.script in
    let wrapper = keys_are script_text _ _ x.scripts.wrapper.entries h.scripts.wrapper
    ∙ ap nodes.keys (under_scripts keys.Wrapper scripts) in
    let profiles = map_is string_bytes IsProfile profile_view profile_text profile_is _ x.profiles.entries h.profiles in
    λ i. record {
      store_dir = store_dir i;
      groups = groups i;
      new_setup_scripts =
          new_setup i;
      old_setup_scripts = old_setup i;
      wrapper_scripts = wrapper i;
      profiles = profiles i;
    }

pub file_is : (n : Node) (x : FileTable) → InTable IsFile n x → file_table_view x ≡ file_text n
file_is n x h = in_table IsFile file_table_view file_text whole_is n x h
