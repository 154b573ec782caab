-- The results of queries of profiles: the settings of tests with their sources, wrappers, setup
-- scripts, groups.
use Rattle.std.specs.Prelude.{◌≡◌, ◌⊎◌, ◌+◌, ℕ, List, [], ◌∷◌, ◌++◌, map, reverse, length, Bool, false, ◌&&◌, Option, None, Some, option_map, option_and_then, unwrap_or, is_some, IsSome, filter}
use Rattle.std.specs.List.{list_any}
use Rattle.std.specs.Option.{option_or}
use Rattle.std.specs.Str.{bytes_eq}
use Rattle.nextest_elements.specs.declared.run_mode.NextestRunMode.{NextestRunMode}
use Rattle.nextest_elements.specs.declared.run_mode.NextestRunMode.TheVariants.{Test as InTest}
use Rattle.nextest_elements.specs.declared.test_group.TestGroup.{TestGroup}
use Rattle.nextest_elements.specs.declared.test_group.TestGroup.TheVariants.{Global, Custom}
use Rattle.nextest_engines.specs.Engines.{Test, Binary}
use Rattle.nextest_load.specs.Closed.{BinaryMatch}
use Rattle.nextest_rules.specs.Accepted.{IfWritten}
use Rattle.nextest_rules.specs.Rules.{RuleId, OverrideUse, ScriptRuleUse}
use Rattle.nextest_scripts.specs.ScriptTexts.{SetupScriptText}
use Rattle.nextest_sources.specs.InputFaults.{Each}
use Rattle.nextest_tables.specs.Written.{Name, WrittenFields}
use Rattle.nextest_tree.specs.Schema.{is_one_of}
use Rattle.nextest_elements.specs.declared.setting.Setting.{Setting}
use Rattle.nextest_elements.specs.declared.setting.Setting.TheVariants as at
use Rattle.nextest_settings.specs.Chains.{first_of}
use Rattle.nextest_settings.specs.Deciding.{QueryContext, rule_holds, winner, asked_from, IsEvaluated}
use Rattle.nextest_settings.specs.Platforms.{EvaluatedRule}
use Rattle.nextest_settings.specs.Profile.{EvaluatableModel}
use Rattle.nextest_elements.specs.Settings.{settings}
use Rattle.nextest_settings.specs.Settings.{ValueOf, sets, is_set, fallback_of}

-- a test, judged by what filters match where the default filter means `default`
abbrev pub test_query : {M : Type 0} → (M → Test → M → Bool) → (default : M) → Test
    → QueryContext M
test_query holds default test =
    record { platform = test.binary.platform; matches = λ m. holds m test default }

-- a binary, the same way: a filter that needs a test does not match
abbrev pub binary_query : {M : Type 0} → (M → Binary → M → Option Bool) → (default : M) → Binary
    → QueryContext M
binary_query holds default binary = record {
  platform = binary.platform;
  matches = λ m. unwrap_or (holds m binary default) false;
}

-- a test in a profile, judged by what filters match
abbrev pub query_in : {M : Type 0} → (M → Test → M → Bool) → EvaluatableModel M → Test
    → QueryContext M
query_in matches profile test = test_query matches profile.default_filter.filter test

-- the first override that holds and sets a setting
abbrev pub deciding_override : {M : Type 0} → QueryContext M → NextestRunMode
    → List (EvaluatedRule M (OverrideUse M)) → Setting → Option (EvaluatedRule M (OverrideUse M))
deciding_override query mode overrides s = winner query (λ w. is_set w.settings mode s) overrides

-- the first script rule that holds and names a run wrapper
abbrev pub wrapping_rule : {M : Type 0} → QueryContext M → List (EvaluatedRule M ScriptRuleUse)
    → Option (EvaluatedRule M ScriptRuleUse)
wrapping_rule query script_rules = winner query (λ w. is_some w.scripts.run_wrapper) script_rules

-- what rules write for a setting: what the first one writes that holds and sets it
abbrev pub written_value : {M : Type 0} → QueryContext M → NextestRunMode
    → List (EvaluatedRule M (OverrideUse M)) → List (EvaluatedRule M ScriptRuleUse) → (s : Setting)
    → Option (ValueOf s)
written_value query mode overrides script_rules at.RunWrapper =
    option_and_then (λ r. r.writes.scripts.run_wrapper) (wrapping_rule query script_rules)
written_value query mode overrides script_rules s =
    option_and_then (λ r. sets r.writes.settings mode s) (deciding_override query mode overrides s)

-- the value of a setting by these rules, over what the profiles of a chain write
abbrev pub value_by : {M : Type 0} → QueryContext M → NextestRunMode
    → List (EvaluatedRule M (OverrideUse M)) → List (EvaluatedRule M ScriptRuleUse)
    → List WrittenFields → (s : Setting) → Option (ValueOf s)
value_by query mode overrides script_rules fields s =
    option_or (written_value query mode overrides script_rules s) (fallback_of fields mode s)

-- The value of a setting: what the first rule writes that holds and sets it, else the fallback.
abbrev pub setting_value : {M : Type 0} → QueryContext M → NextestRunMode → EvaluatableModel M
    → (s : Setting) → Option (ValueOf s)
setting_value query mode p s =
    value_by query mode p.overrides p.script_rules p.facts.fields s

-- where a value comes from: nothing that is written, the profile, an override, a script rule
pub data Origin : Type 0 where
  unwritten : Origin
  by_profile : Origin
  by_override : RuleId → Origin
  by_script : Origin

-- the origin of a fallback: nothing that is written for the priority, none for the run wrapper,
-- and else the profile
abbrev pub fallback_origin : Setting → Option Origin
fallback_origin at.Priority = Some unwritten
fallback_origin at.RunWrapper = None
fallback_origin _ = Some by_profile

-- the origin of what rules write for a setting
abbrev pub written_origin : {M : Type 0} → QueryContext M → NextestRunMode
    → List (EvaluatedRule M (OverrideUse M)) → List (EvaluatedRule M ScriptRuleUse) → Setting
    → Option Origin
written_origin query mode overrides script_rules at.RunWrapper =
    option_map (λ r. by_script) (wrapping_rule query script_rules)
written_origin query mode overrides script_rules s =
    option_map (λ r. by_override r.writes.id) (deciding_override query mode overrides s)

-- the origin of a setting by these rules
abbrev pub origin_by : {M : Type 0} → QueryContext M → NextestRunMode
    → List (EvaluatedRule M (OverrideUse M)) → List (EvaluatedRule M ScriptRuleUse) → Setting
    → Option Origin
origin_by query mode overrides script_rules s =
    option_or (written_origin query mode overrides script_rules s) (fallback_origin s)

-- The origin of a setting: the first rule that holds and sets it, else that of the fallback.
abbrev pub setting_origin : {M : Type 0} → QueryContext M → NextestRunMode → EvaluatableModel M
    → Setting → Option Origin
setting_origin query mode p s = origin_by query mode p.overrides p.script_rules s

-- the numbers of the rules among these whose filters are evaluated for the settings of a test
abbrev pub evaluated_by : {M : Type 0} → QueryContext M → NextestRunMode
    → List (EvaluatedRule M (OverrideUse M)) → List (EvaluatedRule M ScriptRuleUse) → List ℕ
evaluated_by query mode overrides script_rules =
    asked_from (map (λ s w. is_set w.settings mode s) settings) 0 query [] overrides
    ++ asked_from ((λ w. is_some w.scripts.run_wrapper) ∷ []) (length overrides)
    query [] script_rules

-- The rules whose filters are evaluated for the settings of a test, by number: overrides, and then
-- script rules, which are counted on from them.
abbrev pub evaluated_for_test : {M : Type 0} → QueryContext M → NextestRunMode
    → EvaluatableModel M → List ℕ
evaluated_for_test query mode p = evaluated_by query mode p.overrides p.script_rules

-- A number is evaluated for the settings of a test: it is that of an override that is evaluated for
-- a setting, or, counted on from the overrides, that of a script rule for the run wrapper.
abbrev pub IsEvaluatedForTest : {M : Type 0} → QueryContext M → NextestRunMode
    → EvaluatableModel M → ℕ → Type 0
IsEvaluatedForTest query mode p n =
    IsEvaluated (λ (s : Setting) w. is_set w.settings mode s) query p.overrides n
    ⊎ ((k : ℕ) × (n ≡ length p.overrides + k)
    × IsEvaluated (λ (wrapper : Unit {0}) w. is_some w.scripts.run_wrapper) query p.script_rules k)

-- the first script rule that holds and names a list wrapper
abbrev pub listing_rule : {M : Type 0} → QueryContext M → List (EvaluatedRule M ScriptRuleUse)
    → Option (EvaluatedRule M ScriptRuleUse)
listing_rule query script_rules = winner query (λ w. is_some w.scripts.list_wrapper) script_rules

-- a filter, if there is one, has a known value for each binary, whatever the default filter means
abbrev pub HasBinaryAnswers : {M : Type 0} → BinaryMatch M → Option M → Type 0
HasBinaryAnswers {M} matches filter =
    IfWritten filter (λ m. (binary : Binary) (default : M) → IsSome (matches m binary default))

-- Script rules have known values for binaries: the filter of each rule with a list wrapper has a
-- known value for each binary, whatever the default filter means.
abbrev pub AnswerForBinaries : {M : Type 0} → BinaryMatch M → List (EvaluatedRule M ScriptRuleUse)
    → Type 0
AnswerForBinaries matches rules =
    Each (λ r. IsSome r.writes.scripts.list_wrapper → HasBinaryAnswers matches r.filter) rules

-- the list wrapper by these script rules
abbrev pub list_wrapper_by : {M : Type 0} → QueryContext M → List (EvaluatedRule M ScriptRuleUse)
    → Option Name
list_wrapper_by query script_rules =
    option_and_then (λ r. r.writes.scripts.list_wrapper) (listing_rule query script_rules)

-- The list wrapper of a binary: that of the first script rule that holds for it and names one.
abbrev pub list_wrapper_of : {M : Type 0} → QueryContext M → EvaluatableModel M → Option Name
list_wrapper_of query p = list_wrapper_by query p.script_rules

-- the script rules among these whose filters are evaluated for a list wrapper, counted on from the
-- first number
abbrev pub listed_by : {M : Type 0} → QueryContext M → ℕ → List (EvaluatedRule M ScriptRuleUse)
    → List ℕ
listed_by query first script_rules =
    asked_from ((λ w. is_some w.scripts.list_wrapper) ∷ []) first query [] script_rules

-- the script rules whose filters are evaluated for the list wrapper of a binary, by number
abbrev pub evaluated_for_list : {M : Type 0} → QueryContext M → EvaluatableModel M → List ℕ
evaluated_for_list query p = listed_by query (length p.overrides) p.script_rules

-- A number is evaluated for the list wrapper of a binary: counted on from the overrides, it is that
-- of a script rule which is evaluated for the wrapper.
abbrev pub IsEvaluatedForList : {M : Type 0} → QueryContext M → EvaluatableModel M → ℕ → Type 0
IsEvaluatedForList query p n = (k : ℕ) × (n ≡ length p.overrides + k)
    × IsEvaluated (λ (wrapper : Unit {0}) w. is_some w.scripts.list_wrapper) query p.script_rules k

-- whether a script rule that names a setup script holds
abbrev pub is_enabled_for : {M : Type 0} → QueryContext M → List (EvaluatedRule M ScriptRuleUse)
    → Name → Bool
is_enabled_for query rules id =
    list_any (λ r. rule_holds query r && is_one_of r.writes.scripts.setup id) rules

-- the setup scripts that queries enable by these rules
abbrev pub enabled_by : {M X : Type 0} → List (QueryContext M)
    → List (EvaluatedRule M ScriptRuleUse)
    → List (Name × X) → List (Name × X)
enabled_by queries rules scripts =
    filter (λ e. list_any (λ query. is_enabled_for query rules e.0) queries) scripts

-- The setup scripts that queries enable: those, in their order, that a rule names which holds for
-- some of them.
abbrev pub enabled_scripts : {M : Type 0} → List (QueryContext M) → EvaluatableModel M
    → List (Name × SetupScriptText)
enabled_scripts queries p = enabled_by queries p.script_rules p.facts.scripts.setup

-- a custom group, and nothing of the global one
abbrev pub custom_group : TestGroup → Option TestGroup
custom_group Global = None
custom_group (Custom group) = Some (Custom group)

-- whether a test has this binary and this name
abbrev pub is_of_name : List ℕ → List ℕ → Test → Bool
is_of_name binary_id name test =
    bytes_eq test.binary.binary_id binary_id && bytes_eq test.name name

-- the custom group that overrides give a test in test mode
abbrev pub custom_group_by : {M : Type 0} → (M → Test → M → Bool) → (default : M)
    → List (EvaluatedRule M (OverrideUse M)) → Test → Option TestGroup
custom_group_by holds default overrides test = option_and_then custom_group
    (value_by (test_query holds default test) InTest overrides [] [] at.TestGroup)

-- the group of a name among tests: that of the last test of that name to which f gives one, else
-- the global group
abbrev pub last_group : (Test → Option TestGroup) → List Test → (binary_id name : List ℕ)
    → TestGroup
last_group f tests binary_id name =
    unwrap_or (first_of f (reverse (filter (is_of_name binary_id name) tests))) Global

-- the custom group that a test gets in test mode
abbrev pub custom_group_of : {M : Type 0} → (M → Test → M → Bool) → EvaluatableModel M → Test
    → Option TestGroup
custom_group_of holds p test = option_and_then custom_group
    (setting_value (query_in holds p test) InTest p at.TestGroup)

-- The group of a name among tests: the custom group of the last test of that name that gets one,
-- else the global group.
abbrev pub group_of : {M : Type 0} → (M → Test → M → Bool) → EvaluatableModel M → List Test
    → List ℕ → List ℕ → TestGroup
group_of holds p tests binary_id name = last_group (custom_group_of holds p) tests binary_id name

-- the filters of rules by the rules' numbers: the overrides, and then the script rules
abbrev pub filters_of : {M : Type 0} → EvaluatableModel M → List (Option M)
filters_of p = map (λ r. r.filter) p.overrides ++ map (λ r. r.filter) p.script_rules
