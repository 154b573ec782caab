-- LAWS OF WHOLE CONFIGURATIONS: what a user relies on without reading a rule.
use Rattle.std.specs.Prelude.{◌≡◌, ◌⊎◌, ◌↔◌, ◌++◌, ℕ, List, [], ◌∷◌, map, true, false, Option, Some, None, IsSome, Ok, slice_get}
use Rattle.std.specs.List.{AllZip, Contains, IsDistinct}
use Rattle.std.specs.Str.{bytes_eq}
use Rattle.nextest_elements.specs.declared.run_mode.NextestRunMode.{NextestRunMode}
use Rattle.nextest_elements.specs.declared.run_mode.NextestRunMode.TheVariants.{Test as InTest}
use Rattle.nextest_engines.specs.Engines.{Test, Binary}
use Rattle.nextest_engines.specs.Readings.{Readings}
use Rattle.nextest_engines.specs.declared.queries.BuildPlatforms.{BuildPlatforms}
use Rattle.nextest_engines.specs.declared.queries.FiltersetKind.TheVariants.{DefaultFilter}
use Rattle.nextest_inheritance.specs.Parents.{Parents, parents_in, LeadToDefault, IsChain, with_default}
use Rattle.nextest_load.specs.Accepted.{IsAccepted}
use Rattle.nextest_load.specs.Agreement.{AgreeOn, StaysApart, WritesOnlyParent}
use Rattle.nextest_load.specs.Config.{ScriptTables, config_of, config_parents}
use Rattle.nextest_load.specs.Scripts.{AreScriptsOf}
use Rattle.nextest_load.specs.Trees.{tree_in}
use Rattle.nextest_settings.specs.Profiles.Memberships.{HaveDistinctIds}
use Rattle.nextest_rules.specs.Accepted.{IsAmong}
use Rattle.nextest_rules.specs.Definitions.{Features}
use Rattle.nextest_rules.specs.Rules.{Compiled, OverrideUse, at_name}
use Rattle.nextest_scripts.specs.ScriptTexts.{SetupScriptText}
use Rattle.nextest_settings.specs.Chains.{FilterChoice, first_of, match_all_filter}
use Rattle.nextest_settings.specs.Deciding.{rule_holds, decides}
use Rattle.nextest_settings.specs.Platforms.{EvaluatedRule, rule_on, filter_of_override}
use Rattle.nextest_settings.specs.Profile.{Configured, EarlyModel, EvaluatableModel, profile_of, profile_on}
use Rattle.nextest_settings.specs.Queries.{query_in, binary_query, deciding_override, setting_value, by_override, setting_origin, list_wrapper_of, enabled_scripts, group_of}
use Rattle.nextest_settings.specs.Settings.{sets, is_set}
use Rattle.nextest_elements.specs.declared.setting.Setting.{Setting}
use Rattle.nextest_elements.specs.declared.setting.Setting.TheVariants as at
use Rattle.nextest_sources.specs.InputFaults.{Each}
use Rattle.nextest_sources.specs.Inputs.{LoadInputs, SourceText, sources_in}
use Rattle.nextest_tables.specs.FileTexts.{names_in, IsIn}
use Rattle.nextest_tables.specs.Texts.{fields_in}
use Rattle.nextest_tables.specs.Written.{Name}
use Rattle.nextest_tree.specs.Node.{table, no_entries}

-- Files of which every written rule holds, with these features; the root of their workspace, and
-- the scripts that they define.
pub record AcceptedFiles {M K P : Type 0} (engines : Readings M K P) : Type 0 where
  pub root : List ℕ
  pub features : Features
  pub files : LoadInputs
  pub scripts : ScriptTables
  pub rules_hold : IsAccepted engines features files
  pub are_scripts : AreScriptsOf (sources_in files) scripts

-- what accepted files mean
abbrev pub meant_by : {M K P : Type 0} (engines : Readings M K P) → AcceptedFiles engines
    → Configured M K
meant_by engines a = record {
  root = a.root;
  config = config_of engines (sources_in a.files);
  scripts = a.scripts;
}

-- the parents that their profiles write
abbrev pub parents_by : {M K P : Type 0} (engines : Readings M K P) → AcceptedFiles engines
    → Parents
parents_by engines a = parents_in (config_parents (meant_by engines a).config)

-- the names of their profiles
abbrev pub profiles_by : {M K P : Type 0} (engines : Readings M K P) → AcceptedFiles engines
    → List Name
profiles_by engines a = names_in (meant_by engines a).config.profiles

-- their profile of a name and its chain, on the platforms of a build
abbrev pub profile_by : {M K P : Type 0} (engines : Readings M K P) → BuildPlatforms P
    → AcceptedFiles engines → Name → List Name → EvaluatableModel M
profile_by engines platforms a name chain =
    profile_on engines.meets platforms (profile_of (meant_by engines a) name chain)

-- Two profiles give a test the same for a setting in a mode: the same value, from the same source.
pub record GiveSame {M K P : Type 0} (engines : Readings M K P) (p q : EvaluatableModel M)
    (test : Test) (mode : NextestRunMode) (s : Setting) : Type 0 where
  pub value : setting_value (query_in engines.matches_test p test) mode p s
      ≡ setting_value (query_in engines.matches_test q test) mode q s
  pub origin : setting_origin (query_in engines.matches_test p test) mode p s
      ≡ setting_origin (query_in engines.matches_test q test) mode q s

-- Two profiles give a test the same: they do so for each setting in each mode.
abbrev pub GiveTestTheSame : {M K P : Type 0} → Readings M K P → (p q : EvaluatableModel M) → Test
    → Type 0
GiveTestTheSame engines p q test =
    (mode : NextestRunMode) (s : Setting) → GiveSame engines p q test mode s

-- the list wrapper that a profile gives a binary
abbrev pub list_wrapper_in : {M K P : Type 0} → Readings M K P → EvaluatableModel M → Binary
    → Option Name
list_wrapper_in engines p binary =
    list_wrapper_of (binary_query engines.matches_binary p.default_filter.filter binary) p

-- the setup scripts that tests enable
abbrev pub enabled_for : {M K P : Type 0} → Readings M K P → EvaluatableModel M → List Test
    → List (Name × SetupScriptText)
enabled_for engines p tests = enabled_scripts (map (query_in engines.matches_test p) tests) p

-- Two profiles give the same: each test the same settings, each binary the same list wrapper, each
-- id of a wrapper the same script; tests enable the same setup scripts, whatever their order; and
-- the default filter is the same, as is the place where it is.
pub record GiveTheSame {M K P : Type 0} (engines : Readings M K P) (p q : EvaluatableModel M)
    : Type 0 where
  pub tests : (test : Test) → GiveTestTheSame engines p q test
  pub binaries : (binary : Binary)
      → list_wrapper_in engines p binary ≡ list_wrapper_in engines q binary
  pub wrappers : (id : Name)
      → at_name id p.facts.scripts.wrapper ≡ at_name id q.facts.scripts.wrapper
  pub setup_scripts : (tests : List Test) (id : Name)
      → at_name id (enabled_for engines p tests) ≡ at_name id (enabled_for engines q tests)
  pub default_filter : p.default_filter ≡ q.default_filter

-- Two lists of accepted files have the same profile of a name and a chain: it is a profile of both
-- or of neither, it has the same chain, it gives the same, and the profiles of the chain write the
-- same fields.
pub record HaveSameProfile {M K P : Type 0} (engines : Readings M K P)
    (platforms : BuildPlatforms P) (a b : AcceptedFiles engines) (name : Name) (chain : List Name)
    : Type 0 where
  pub there : IsIn (profiles_by engines a) name ↔ IsIn (profiles_by engines b) name
  pub is_chain : IsChain (parents_by engines b) name chain
  pub gives : GiveTheSame engines (profile_by engines platforms a name chain)
      (profile_by engines platforms b name chain)
  pub fields : (profile_by engines platforms a name chain).facts.fields
      ≡ (profile_by engines platforms b name chain).facts.fields

-- ISOLATION. Where two lists of accepted files agree, source by source, on `default`, a profile and
-- its ancestors, they have the same profile of that name.
abbrev pub Isolation : {M K P : Type 0} → Readings M K P → Type 0
Isolation {P = P} engines =
    (platforms : BuildPlatforms P) (a b : AcceptedFiles engines) (name : Name) (chain : List Name)
    → IsChain (parents_by engines a) name chain
    → AllZip (AgreeOn (with_default chain)) (sources_in a.files) (sources_in b.files)
    → HaveSameProfile engines platforms a b name chain

-- A FILE APART. Where a further source stays apart from `default`, a profile and its ancestors, two
-- lists of accepted files, one with that source and one without it, have the same profile.
abbrev pub FileApart : {M K P : Type 0} → Readings M K P → Type 0
FileApart {P = P} engines =
    (platforms : BuildPlatforms P) (a b : AcceptedFiles engines) (name : Name) (chain : List Name)
    (below : List SourceText) (s : SourceText) (above : List SourceText)
    → IsChain (parents_by engines a) name chain
    → sources_in a.files ≡ below ++ above → sources_in b.files ≡ below ++ s ∷ above
    → StaysApart (with_default chain) s
    → HaveSameProfile engines platforms a b name chain

-- ALIAS. A profile below which no source writes anything but its parent is one more name of that
-- parent: it gives the same, and its own table writes what an empty one would.
abbrev pub Aliasing : {M K P : Type 0} → Readings M K P → Type 0
Aliasing {P = P} engines =
    (platforms : BuildPlatforms P) (a : AcceptedFiles engines) (name parent : Name)
    (chain : List Name)
    → Each (λ s. WritesOnlyParent name (tree_in s)) (sources_in a.files)
    → parents_by engines a name ≡ Some parent
    → IsChain (parents_by engines a) parent chain
    → let p = profile_by engines platforms a name (name ∷ chain) in
    let q = profile_by engines platforms a parent chain in
    IsChain (parents_by engines a) name (name ∷ chain)
    × GiveTheSame engines p q
    × (p.facts.fields ≡ fields_in (table no_entries) ∷ q.facts.fields)

-- the text of a default filter reads to what the filter means
abbrev pub ReadsToFilter : {M K P : Type 0} → Readings M K P → FilterChoice M → Type 0
ReadsToFilter engines choice = engines.read_filter DefaultFilter choice.text ≡ Ok choice.filter

-- DEFAULT FILTERS. The text of the default filter of a profile reads to what that filter means; or
-- the filter is `all()`, which matches everything.
abbrev pub DefaultFiltersAreRead : {M K P : Type 0} → Readings M K P → Type 0
DefaultFiltersAreRead {P = P} engines =
    (platforms : BuildPlatforms P) (a : AcceptedFiles engines) (name : Name) (chain : List Name)
    → let choice = (profile_by engines platforms a name chain).default_filter in
    ReadsToFilter engines choice ⊎ (choice ≡ match_all_filter engines.match_all)

-- an override on the platforms of a build
abbrev pub held_on : {M K P : Type 0} → Readings M K P → BuildPlatforms P
    → Compiled M K (OverrideUse M) → EvaluatedRule M (OverrideUse M)
held_on engines platforms rule = rule_on engines.meets platforms rule

-- a profile with these overrides in place of its own; each rule keeps its id
abbrev pub with_overrides : {M K : Type 0} → List (Compiled M K (OverrideUse M))
    → EarlyModel M K → EarlyModel M K
with_overrides overrides p = record {
  facts = p.facts;
  overrides = overrides;
  script_rules = p.script_rules;
  nearest_filter = p.nearest_filter;
  match_all = p.match_all;
}

-- The default filter of an override is chosen: the override has one, its platforms hold for
-- binaries of the target, and no override before it has one of which that can be said.
pub record IsChosenFilter {M : Type 0} (before : List (EvaluatedRule M (OverrideUse M)))
    (rule : EvaluatedRule M (OverrideUse M)) : Type 0 where
  pub has_one : IsSome (filter_of_override rule)
  pub first : first_of filter_of_override before ≡ None

-- TAKING OUT. An override that does not hold for a test may be taken out of a profile, but for the
-- one whose default filter is chosen: the test is given the same, and the default filter stays.
abbrev pub TakingOut : {M K P : Type 0} → Readings M K P → Type 0
TakingOut {M = M} {K = K} {P = P} engines =
    (platforms : BuildPlatforms P) (p : EarlyModel M K)
    (before : List (Compiled M K (OverrideUse M))) (rule : Compiled M K (OverrideUse M))
    (after : List (Compiled M K (OverrideUse M))) (test : Test)
    → p.overrides ≡ before ++ rule ∷ after
    → let whole = profile_on engines.meets platforms p in
    let rest = profile_on engines.meets platforms (with_overrides (before ++ after) p) in
    rule_holds (query_in engines.matches_test whole test) (held_on engines platforms rule) ≡ false
    → ¬ IsChosenFilter (map (held_on engines platforms) before) (held_on engines platforms rule)
    → GiveTestTheSame engines whole rest test
    × (whole.default_filter ≡ rest.default_filter)

-- One more override gives a test what it decides, and nothing else: each setting that another
-- override decides, or that this one does not write or does not hold for, keeps its value and its
-- source; any other is what this one writes, and comes from it.
pub record DecidesTheRest {M K P : Type 0} (engines : Readings M K P) (old new : EvaluatableModel M)
    (rule : EvaluatedRule M (OverrideUse M)) (test : Test) : Type 0 where
  pub kept : (mode : NextestRunMode) (s : Setting)
      → let query = query_in engines.matches_test old test in
      IsSome (deciding_override query mode old.overrides s)
      ⊎ (decides query (λ w. is_set w.settings mode s) rule ≡ false)
      → GiveSame engines new old test mode s
  pub decided : (mode : NextestRunMode) (s : Setting)
      → let query = query_in engines.matches_test old test in
      deciding_override query mode old.overrides s ≡ None
      → decides query (λ w. is_set w.settings mode s) rule ≡ true
      → let asked = query_in engines.matches_test new test in
      (setting_value asked mode new s ≡ sets rule.writes.settings mode s)
      × (setting_origin asked mode new s ≡ Some (by_override rule.writes.id))

-- A LAST RULE. Where one more override is behind all others of a profile, and its default
-- filter is not chosen, it gives a test what it decides and nothing else, and the default filter
-- stays.
abbrev pub LastRule : {M K P : Type 0} → Readings M K P → Type 0
LastRule {M = M} {K = K} {P = P} engines =
    (platforms : BuildPlatforms P) (p : EarlyModel M K) (rule : Compiled M K (OverrideUse M))
    (test : Test)
    → let old = profile_on engines.meets platforms p in
    let new = profile_on engines.meets platforms (with_overrides (p.overrides ++ rule ∷ []) p) in
    ¬ IsChosenFilter old.overrides (held_on engines platforms rule)
    → DecidesTheRest engines old new (held_on engines platforms rule) test
    × (new.default_filter ≡ old.default_filter)

-- USERS, groups. Each group that a profile gives a test is the global one or a group of the
-- configuration.
abbrev pub GroupsAreKnown : {M K P : Type 0} → Readings M K P → Type 0
GroupsAreKnown {P = P} engines =
    (platforms : BuildPlatforms P) (a : AcceptedFiles engines) (name : Name) (chain : List Name)
    (mode : NextestRunMode) (test : Test)
    → let p = profile_by engines platforms a name chain in
    IsAmong (names_in p.facts.groups)
    (setting_value (query_in engines.matches_test p test) mode p at.TestGroup)

-- USERS, chains. The names that count for a profile, those of its chain and then `default`, are all
-- different.
abbrev pub ChainsRepeatNoName : Type 0
ChainsRepeatNoName = (parents : Parents) (name : Name) (chain : List Name)
    → LeadToDefault parents name chain → IsDistinct bytes_eq (with_default chain)

-- A list is another one with some elements left out.
abbrev pub IsSublist : {X : Type 0} → List X → List X → Type 0
IsSublist xs [] = xs ≡ []
IsSublist {X} xs (y ∷ ys) =
    IsSublist xs ys ⊎ ((rest : List X) × (xs ≡ y ∷ rest) × IsSublist rest ys)

-- USERS, setup scripts. Those that tests enable are scripts of the configuration, in their order;
-- and tests enable no script that these tests among others do not.
pub record ScriptsAreEnabledInOrder {M K P : Type 0} (engines : Readings M K P)
    (p : EvaluatableModel M) : Type 0 where
  pub some_of_all : (tests : List Test)
      → IsSublist (enabled_for engines p tests) p.facts.scripts.setup
  pub at_least_the_same : (tests more : List Test)
      → ((test : Test) → Contains tests test → Contains more test)
      → IsSublist (enabled_for engines p tests) (enabled_for engines p more)

-- USERS, memberships. Where tests have distinct ids, the group of each is the one that its settings
-- in test mode say.
abbrev pub GroupsAreOfSettings : {M K P : Type 0} → Readings M K P → Type 0
GroupsAreOfSettings {M = M} engines =
    (p : EvaluatableModel M) (tests : List Test) (n : ℕ) (test : Test)
    → HaveDistinctIds tests → slice_get tests n ≡ Some test
    → setting_value (query_in engines.matches_test p test) InTest p at.TestGroup
    ≡ Some (group_of engines.matches_test p tests test.binary.binary_id test.name)
