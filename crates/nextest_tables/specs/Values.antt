-- Which values the tables of a file spell.
use Rattle.std.specs.Prelude.{◌≡◌, map, Ok, Some, option_and_then, unwrap_or, Vec, String, string_bytes}
use Rattle.std.specs.declared.alloc.Global.{Global}
use Rattle.nextest_tree.specs.declared.key.Key.{Key}
use Rattle.nextest_tree.specs.declared.key.Key.TheVariants as keys
use Rattle.nextest_tree.specs.Key.{key_text}
use Rattle.nextest_tree.specs.Leaf.{IsText, Spells}
use Rattle.nextest_tree.specs.Node.{Node, Nodes, no_nodes, Entries, no_entries, get, as_array, as_table}
use Rattle.nextest_tree.specs.Reads.{IsOptional, IsList, IsMap, InArray, InTable}
use Rattle.nextest_elements.specs.Bench.{IsBench, IsBenchOverride}
use Rattle.nextest_elements.specs.FlakyResult.{flaky_result_at}
use Rattle.nextest_elements.specs.GlobalTimeout.{IsGlobalTimeout}
use Rattle.nextest_elements.specs.Junit.{IsJunit, IsJunitOverride}
use Rattle.nextest_elements.specs.LeakTimeout.{IsLeakTimeout}
use Rattle.nextest_elements.specs.MaxFail.{IsMaxFail}
use Rattle.nextest_elements.specs.RetryPolicy.{IsRetry}
use Rattle.nextest_elements.specs.SlowTimeout.{IsSlowTimeout}
use Rattle.nextest_elements.specs.StatusLevel.{status_level_at, final_status_level_at}
use Rattle.nextest_elements.specs.TestGroup.{test_group_at, custom_group_text, IsGroupTable}
use Rattle.nextest_elements.specs.TestOutputDisplay.{test_output_display_at}
use Rattle.nextest_elements.specs.TestPriority.{priority_at}
use Rattle.nextest_elements.specs.TestThreads.{test_threads_at}
use Rattle.nextest_elements.specs.ThreadsRequired.{threads_required_at}
use Rattle.nextest_scripts.specs.ScriptId.{script_text}
use Rattle.nextest_scripts.specs.ScriptIdReader.{IsScriptId}
use Rattle.nextest_scripts.specs.SetupScript.{IsSetupScript}
use Rattle.nextest_scripts.specs.WrapperScript.{IsWrapperScript}
use Rattle.nextest_tables.specs.FileTexts.{platform_in, ids_at, text_at_key}
use Rattle.nextest_tables.specs.View.{platform_view}
use Rattle.nextest_tables.specs.declared.file_table.FileTable.{FileTable}
use Rattle.nextest_tables.specs.declared.file_table.ScriptsTable.{ScriptsTable}
use Rattle.nextest_tables.specs.declared.file_table.StoreTable.{StoreTable}
use Rattle.nextest_tables.specs.declared.override_table.OverrideHead.{OverrideHead}
use Rattle.nextest_tables.specs.declared.override_table.OverrideOutputs.{OverrideOutputs}
use Rattle.nextest_tables.specs.declared.override_table.OverrideRuns.{OverrideRuns}
use Rattle.nextest_tables.specs.declared.override_table.OverrideTable.{OverrideTable}
use Rattle.nextest_tables.specs.declared.platform_strings.PlatformStrings.{PlatformStrings}
use Rattle.nextest_tables.specs.declared.profile_table.ProfileEnds.{ProfileEnds}
use Rattle.nextest_tables.specs.declared.profile_table.ProfileOutputs.{ProfileOutputs}
use Rattle.nextest_tables.specs.declared.profile_table.ProfileRest.{ProfileRest}
use Rattle.nextest_tables.specs.declared.profile_table.ProfileRuns.{ProfileRuns}
use Rattle.nextest_tables.specs.declared.profile_table.ProfileTable.{ProfileTable}
use Rattle.nextest_tables.specs.declared.script_rule_table.ScriptRuleTable.{ScriptRuleTable}

-- the items of the array at a key of a table, none where there is no array
abbrev pub nodes_at : Key → Entries → Nodes
nodes_at k es = unwrap_or (option_and_then as_array (get (key_text k) es)) no_nodes

-- the entries of the table at a key of a table, none where there is no table
abbrev pub nodes_under : Key → Entries → Entries
nodes_under k es = unwrap_or (option_and_then as_table (get (key_text k) es)) no_entries

-- the items of an array spell these texts
abbrev pub AreTexts : Node → Vec (String Global) Global → Type 0
AreTexts n v = InArray (λ ns xs. IsList IsText ns xs) n v.items

-- the fields of a table spell these platforms
pub record ArePlatforms (es : Entries) (p : PlatformStrings) : Type 0 where
  pub host : IsOptional IsText (get (key_text keys.Host) es) p.host
  pub target : IsOptional IsText (get (key_text keys.Target) es) p.target

-- a node spells these platforms
abbrev pub IsPlatform : Node → PlatformStrings → Type 0
IsPlatform n p = platform_view p ≡ platform_in (Some n)

-- the head of an override says which tests it is for, their priority, and its default filter
pub record IsOverrideHead (es : Entries) (x : OverrideHead) : Type 0 where
  pub platform : platform_view x.platform ≡ platform_in (get (key_text keys.Platform) es)
  pub filter : IsOptional IsText (get (key_text keys.Filter) es) x.filter
  pub priority : IsOptional (λ n p. priority_at n ≡ Ok p.0) (get (key_text keys.Priority) es)
      x.priority
  pub default_filter : IsOptional IsText (get (key_text keys.DefaultFilter) es) x.default_filter

-- the fields that say how an override has tests run spell these values
pub record AreOverrideRuns (es : Entries) (x : OverrideRuns) : Type 0 where
  pub threads_required : IsOptional (Spells threads_required_at)
      (get (key_text keys.ThreadsRequired) es) x.threads_required
  pub run_extra_args : IsOptional AreTexts (get (key_text keys.RunExtraArgs) es) x.run_extra_args
  pub retries : IsOptional IsRetry (get (key_text keys.Retries) es) x.retries
  pub flaky_result : IsOptional (Spells flaky_result_at) (get (key_text keys.FlakyResult) es)
      x.flaky_result
  pub slow_timeout : IsOptional IsSlowTimeout (get (key_text keys.SlowTimeout) es) x.slow_timeout
  pub leak_timeout : IsOptional IsLeakTimeout (get (key_text keys.LeakTimeout) es) x.leak_timeout

-- the fields that say what an override has grouped, shown and reported spell these values
pub record AreOverrideOutputs (es : Entries) (x : OverrideOutputs) : Type 0 where
  pub test_group : IsOptional (Spells test_group_at) (get (key_text keys.TestGroup) es) x.test_group
  pub success_output : IsOptional (Spells test_output_display_at)
      (get (key_text keys.SuccessOutput) es) x.success_output
  pub failure_output : IsOptional (Spells test_output_display_at)
      (get (key_text keys.FailureOutput) es) x.failure_output
  pub junit : IsOptional (InTable IsJunitOverride) (get (key_text keys.Junit) es) x.junit
  pub bench : IsOptional (InTable IsBenchOverride) (get (key_text keys.Bench) es) x.bench

-- the fields of an override spell these values
pub record IsOverride (es : Entries) (x : OverrideTable) : Type 0 where
  pub platform : platform_view x.platform ≡ platform_in (get (key_text keys.Platform) es)
  pub filter : IsOptional IsText (get (key_text keys.Filter) es) x.filter
  pub priority : IsOptional (λ n p. priority_at n ≡ Ok p.0) (get (key_text keys.Priority) es)
      x.settings.priority
  pub default_filter : IsOptional IsText (get (key_text keys.DefaultFilter) es) x.default_filter
  pub runs : AreOverrideRuns es x.settings.runs
  pub outputs : AreOverrideOutputs es x.settings.outputs

-- the fields of a script rule spell these values
pub record IsScriptRule (es : Entries) (x : ScriptRuleTable) : Type 0 where
  pub platform : platform_view x.platform ≡ platform_in (get (key_text keys.Platform) es)
  pub filter : IsOptional IsText (get (key_text keys.Filter) es) x.filter
  pub setup : map script_text x.scripts.setup.items ≡ ids_at (get (key_text keys.Setup) es)
  pub list_wrapper : IsOptional IsScriptId (get (key_text keys.ListWrapper) es)
      x.scripts.list_wrapper
  pub run_wrapper : IsOptional IsScriptId (get (key_text keys.RunWrapper) es) x.scripts.run_wrapper

-- the fields that say how a profile has tests run spell these values
pub record AreProfileRuns (es : Entries) (x : ProfileRuns) : Type 0 where
  pub retries : IsOptional IsRetry (get (key_text keys.Retries) es) x.retries
  pub flaky_result : IsOptional (Spells flaky_result_at) (get (key_text keys.FlakyResult) es)
      x.flaky_result
  pub test_threads : IsOptional (Spells test_threads_at) (get (key_text keys.TestThreads) es)
      x.test_threads
  pub threads_required : IsOptional (Spells threads_required_at)
      (get (key_text keys.ThreadsRequired) es) x.threads_required
  pub run_extra_args : IsOptional AreTexts (get (key_text keys.RunExtraArgs) es) x.run_extra_args

-- the fields that say what a profile has shown spell these values
pub record AreProfileOutputs (es : Entries) (x : ProfileOutputs) : Type 0 where
  pub status_level : IsOptional (Spells status_level_at) (get (key_text keys.StatusLevel) es)
      x.status_level
  pub final_status_level : IsOptional (Spells final_status_level_at)
      (get (key_text keys.FinalStatusLevel) es) x.final_status_level
  pub failure_output : IsOptional (Spells test_output_display_at)
      (get (key_text keys.FailureOutput) es) x.failure_output
  pub success_output : IsOptional (Spells test_output_display_at)
      (get (key_text keys.SuccessOutput) es) x.success_output

-- the fields that say when a profile has a run or a test ended spell these values
pub record AreProfileEnds (es : Entries) (x : ProfileEnds) : Type 0 where
  pub max_fail : IsOptional IsMaxFail (get (key_text keys.FailFast) es) x.max_fail
  pub slow_timeout : IsOptional IsSlowTimeout (get (key_text keys.SlowTimeout) es) x.slow_timeout
  pub global_timeout : IsOptional IsGlobalTimeout (get (key_text keys.GlobalTimeout) es)
      x.global_timeout
  pub leak_timeout : IsOptional IsLeakTimeout (get (key_text keys.LeakTimeout) es) x.leak_timeout

-- the lists and tables of a profile, and the profile that it inherits from, spell these values
pub record IsProfileRest (es : Entries) (x : ProfileRest) : Type 0 where
  pub overrides : IsList (InTable IsOverride) (nodes_at keys.Overrides es) x.overrides.items
  pub scripts : IsList (InTable IsScriptRule) (nodes_at keys.Scripts es) x.scripts.items
  pub junit : IsOptional (InTable IsJunit) (get (key_text keys.Junit) es) x.junit
  pub bench : IsOptional (InTable IsBench) (get (key_text keys.Bench) es) x.bench
  pub inherits : IsOptional IsText (get (key_text keys.Inherits) es) x.inherits

-- the fields of a profile spell these values
pub record IsProfile (es : Entries) (x : ProfileTable) : Type 0 where
  pub default_filter : IsOptional IsText (get (key_text keys.DefaultFilter) es) x.default_filter
  pub runs : AreProfileRuns es x.fields.runs
  pub outputs : AreProfileOutputs es x.fields.outputs
  pub ends : AreProfileEnds es x.fields.ends
  pub overrides : IsList (InTable IsOverride) (nodes_at keys.Overrides es) x.overrides.items
  pub scripts : IsList (InTable IsScriptRule) (nodes_at keys.Scripts es) x.scripts.items
  pub junit : IsOptional (InTable IsJunit) (get (key_text keys.Junit) es) x.fields.junit
  pub bench : IsOptional (InTable IsBench) (get (key_text keys.Bench) es) x.fields.bench
  pub inherits : IsOptional IsText (get (key_text keys.Inherits) es) x.inherits

-- the field of a store spells its directory
abbrev pub IsStore : Entries → StoreTable → Type 0
IsStore es x = IsOptional IsText (get (key_text keys.Dir) es) (Some x.dir)

-- the fields of a table of scripts spell these scripts, under their ids
pub record AreScripts (es : Entries) (x : ScriptsTable) : Type 0 where
  pub setup : IsMap script_text (InTable IsSetupScript) (nodes_under keys.Setup es)
      x.setup.entries
  pub wrapper : IsMap script_text (InTable IsWrapperScript) (nodes_under keys.Wrapper es)
      x.wrapper.entries

-- the fields of a whole file spell these values, under their names
pub record IsFile (es : Entries) (x : FileTable) : Type 0 where
  pub store_dir : Some (string_bytes x.store_dir)
      ≡ option_and_then (text_at_key keys.Dir) (get (key_text keys.Store) es)
  pub test_groups : IsMap custom_group_text (InTable IsGroupTable)
      (nodes_under keys.TestGroups es) x.test_groups.entries
  pub script : IsMap script_text (InTable IsSetupScript) (nodes_under keys.Script es)
      x.script.entries
  pub scripts : AreScripts (nodes_under keys.Scripts es) x.scripts
  pub profiles : IsMap string_bytes (InTable IsProfile) (nodes_under keys.Profile es)
      x.profiles.entries
