-- WHAT RESOLVING PROMISES: from the texts of files to the settings of tests.
use Rattle.std.specs.Prelude.{◌≡◌, ◌↔◌, ◌≤◌, ◌++◌, ℕ, Bool, List, Contains, length, count_by, is_some, Option, IsSome, IfSome, Result, Ok, Err, IfOk}
use Rattle.std.specs.Cmp.Lexicographic.{slice_cmp}
use Rattle.std.specs.List.{AllZip, flat_map}
use Rattle.std.specs.List.Sorted.{IsStrictlySortedBy}
use Rattle.std.specs.Ordering.{nat_cmp}
use Rattle.nextest_elements.specs.declared.run_mode.NextestRunMode.{NextestRunMode}
use Rattle.nextest_engines.specs.Engines.{Test}
use Rattle.nextest_engines.specs.Readings.{Readings}
use Rattle.nextest_engines.specs.declared.queries.BuildPlatforms.{BuildPlatforms}
use Rattle.nextest_inheritance.specs.Parents.{parents_in, IsChain}
use Rattle.nextest_load.specs.Accepted.{IsAccepted}
use Rattle.nextest_load.specs.Closed.{IsClosed}
use Rattle.nextest_load.specs.Config.{ScriptTables, config_of, config_parents}
use Rattle.nextest_load.specs.Exact.{IsExact}
use Rattle.nextest_load.specs.Scripts.{AreScriptsOf}
use Rattle.nextest_load.specs.Steps.{load_steps}
use Rattle.nextest_rules.specs.Definitions.{Features}
use Rattle.nextest_sources.specs.Causes.{LoadFault}
use Rattle.nextest_sources.specs.Endings.{IsFollowedInPart}
use Rattle.nextest_sources.specs.Inputs.{LoadInputs, sources_in}
use Rattle.nextest_sources.specs.Steps.{LoadStep, first_fault, warnings_before}
use Rattle.nextest_sources.specs.Warnings.{Warning}
use Rattle.nextest_tables.specs.FileTexts.{names_in, IsIn}
use Rattle.nextest_tables.specs.Written.{Name}
use Rattle.nextest_elements.specs.declared.setting.Setting.{Setting}
use Rattle.nextest_settings.specs.Deciding.{Rising, HasFilterAt}
use Rattle.nextest_settings.specs.Profile.{Configured, EvaluatableModel, profile_of, profile_on}
use Rattle.nextest_settings.specs.Queries.{query_in, filters_of, setting_value, Origin, setting_origin, evaluated_for_test, IsEvaluatedForTest}
use Rattle.nextest_settings.specs.Settings.{ValueOf}

-- A request: files, features, a profile, the platforms of a build, a mode and tests.
pub record Request (P : Type 0) : Type 0 where
  pub root : List ℕ
  pub files : LoadInputs
  pub features : Features
  pub profile : Name
  pub platforms : BuildPlatforms P
  pub mode : NextestRunMode
  pub tests : List Test

-- A row: the value of each setting, and its source, if it has one.
pub record Row : Type 0 where
  pub value : (s : Setting) → Option (ValueOf s)
  pub source : Setting → Option Origin

-- Why no rows are returned: the configuration is refused, it has no profile of the name, or memory
-- ran out.
pub data Refusal : Type 0 where
  bad_config : Option LoadFault → Refusal
  no_profile : (name : Name) → (profiles : List Name) → Refusal
  out_of_memory : Refusal

-- What a run did: its result, and the warnings and the evaluations before and after it.
pub record Run : Type 0 where
  pub answer : Result (List Row) Refusal
  pub warnings_old : List Warning
  pub warnings_new : List Warning
  pub numbers_old : List ℕ
  pub numbers_new : List ℕ

-- a fact of the fault that is reported, where the configuration is refused
abbrev pub IfBadConfig : Result (List Row) Refusal → (Option LoadFault → Type 0) → Type 0
IfBadConfig (Err (bad_config fault)) P = P fault
IfBadConfig (Err (no_profile name profiles)) P = Unit {0}
IfBadConfig (Err out_of_memory) P = Unit {0}
IfBadConfig (Ok rows) P = Unit {0}

-- a fact of the name and of all names of profiles, where there is no profile of the name
abbrev pub IfNoProfile : Result (List Row) Refusal → (Name → List Name → Type 0) → Type 0
IfNoProfile (Err (no_profile name profiles)) P = P name profiles
IfNoProfile (Err (bad_config fault)) P = Unit {0}
IfNoProfile (Err out_of_memory) P = Unit {0}
IfNoProfile (Ok rows) P = Unit {0}

-- a fact of a refusal for another cause than memory
abbrev pub IfRefused : Result (List Row) Refusal → Type 0 → Type 0
IfRefused (Err (bad_config fault)) P = P
IfRefused (Err (no_profile name profiles)) P = P
IfRefused (Err out_of_memory) P = Unit {0}
IfRefused (Ok rows) P = Unit {0}

-- a list was followed by another one, or, where memory ran out, by a beginning of it
abbrev pub IsFollowed : {X : Type 0} → Result (List Row) Refusal → List X → List X → List X → Type 0
IsFollowed (Err out_of_memory) old new more = IsFollowedInPart old new more
IsFollowed _ old new more = new ≡ old ++ more

-- the files of the request satisfy every written rule
abbrev pub RulesHold : {M K P : Type 0} → Readings M K P → Request P → Type 0
RulesHold engines request = IsAccepted engines request.features request.files

-- the steps of the load that is requested
abbrev pub steps_for : {M K P : Type 0} → Readings M K P → Request P → List LoadStep
steps_for engines request = load_steps engines request.features request.files

-- the names of the profiles of the merged tree
abbrev pub profile_names : {M K P : Type 0} → Readings M K P → Request P → List Name
profile_names engines request = names_in (config_of engines (sources_in request.files)).profiles

-- A configuration is refused: some written rule does not hold, and this is the first fault of the
-- load.
pub record IsRefused {M K P : Type 0} (engines : Readings M K P) (request : Request P)
    (fault : Option LoadFault) : Type 0 where
  pub broken : ¬ RulesHold engines request
  pub first : first_fault (steps_for engines request) ≡ fault
  pub is_fault : IsSome fault

-- A profile is missing: its name is the one that was requested, it is none of these names, and they
-- are all reported, in the order of their bytes.
pub record IsMissing (names : List Name) (asked : Name) (name : Name) (profiles : List Name)
    : Type 0 where
  pub same : name ≡ asked
  pub all : profiles ≡ names
  pub ascending : IsStrictlySortedBy (slice_cmp nat_cmp) profiles
  pub absent : ¬ IsIn profiles name

-- what is requested, as a configuration with these scripts
abbrev pub configured_for : {M K P : Type 0} → Readings M K P → Request P → ScriptTables
    → Configured M K
configured_for engines request scripts = record {
  root = request.root;
  config = config_of engines (sources_in request.files);
  scripts = scripts;
}

-- A profile on the platforms that are requested: it is the one of the name that was requested, by
-- its chain.
pub record IsProfileFor {M K P : Type 0} (engines : Readings M K P) (request : Request P)
    (scripts : ScriptTables) (profile : EvaluatableModel M) : Type 0 where
  pub chain : List Name
  pub is_chain : IsChain
      (parents_in (config_parents (config_of engines (sources_in request.files))))
      request.profile chain
  pub is_profile : profile ≡ profile_on engines.meets request.platforms
      (profile_of (configured_for engines request scripts) request.profile chain)

-- A row is that of a test: each value by itself is what the first rule writes that holds and sets
-- it, else the fallback, with its source.
pub record IsTestRow {M : Type 0} (matches : M → Test → M → Bool) (profile : EvaluatableModel M)
    (mode : NextestRunMode) (test : Test) (row : Row) : Type 0 where
  pub values : (s : Setting)
      → row.value s ≡ setting_value (query_in matches profile test) mode profile s
  pub sources : (s : Setting)
      → row.source s ≡ setting_origin (query_in matches profile test) mode profile s

-- the rules whose filters are evaluated for a test, by number
abbrev pub numbers_for : {M : Type 0} → (M → Test → M → Bool) → EvaluatableModel M
    → NextestRunMode → Test → List ℕ
numbers_for matches profile mode test =
    evaluated_for_test (query_in matches profile test) mode profile

-- Rows are those of the requested tests, and these numbers of rules were evaluated.
pub record AreRows {M K P : Type 0} (engines : Readings M K P) (request : Request P)
    (rows : List Row) (numbers : List ℕ) : Type 0 where
  -- The configuration has a profile of the name.
  pub known : IsIn (profile_names engines request) request.profile
  -- Its scripts are those that the files define, in their order.
  pub scripts : ScriptTables
  pub are_scripts : AreScriptsOf (sources_in request.files) scripts
  -- The profile is the one of the name, by its chain, on the platforms that are requested.
  pub profile : EvaluatableModel M
  pub is_profile : IsProfileFor engines request scripts profile
  -- The configuration is closed: nothing in it names anything undefined.
  pub closure : IsClosed engines.matches_binary (config_of engines (sources_in request.files))
      scripts
  -- There is one row for each test, in order, with the settings that the profile gives it.
  pub each : AllZip (IsTestRow engines.matches_test profile request.mode) request.tests rows
  -- The numbers are those of the rules that are evaluated for the tests, one test after another.
  pub evaluated :
      numbers ≡ flat_map (numbers_for engines.matches_test profile request.mode) request.tests
  -- For each test they rise strictly, and each is that of a rule with a filter.
  pub rising : (test : Test) → Rising (HasFilterAt (filters_of profile)) 0
      (numbers_for engines.matches_test profile request.mode test)
  -- For each test they are exactly those of the rules that have a filter, whose platforms hold, and
  -- that write something which no lower rule decides.
  pub exactly : (test : Test) (n : ℕ)
      → Contains (numbers_for engines.matches_test profile request.mode test) n
      ↔ IsEvaluatedForTest (query_in engines.matches_test profile test) request.mode profile n
  -- For each test there are at most as many as there are rules with a filter.
  pub count : (test : Test) → length (numbers_for engines.matches_test profile request.mode test)
      ≤ count_by is_some (filters_of profile)

-- For every list of sources, load returns a configuration exactly if every written rule holds;
-- then no query of any profile, platforms, mode and test meets an undefined script, group, parent
-- or a cycle, and each setting is the value at the first rule, in order of chain, file and index,
-- whose platforms and filter hold and which sets it, else the nearest profile's value or the stated
-- fallback.
pub record Resolves {M K P : Type 0} (engines : Readings M K P) (request : Request P) (run : Run)
    : Type 0 where
  -- Rows are returned only if the files satisfy every written rule.
  pub acceptance : IfOk run.answer (λ _. RulesHold engines request)
  -- A configuration is refused only if some rule does not hold, and for the first fault of the
  -- load.
  pub refusal : IfBadConfig run.answer (IsRefused engines request)
  -- An element that is refused is the least fault of its tree, and refused parents name exactly its
  -- cycles.
  pub exact : IfBadConfig run.answer (λ fault. IfSome fault (IsExact request.files))
  -- A profile is missing only if every rule holds and the configuration has none of that name.
  pub absence : IfNoProfile run.answer (λ name profiles. RulesHold engines request
      × IsMissing (profile_names engines request) request.profile name profiles)
  -- The warnings are those of the load before its first fault.
  pub warnings : IsFollowed run.answer run.warnings_old run.warnings_new
      (warnings_before (steps_for engines request))
  -- Where the configuration is refused or the profile is missing, no rule was evaluated.
  pub unasked : IfRefused run.answer (run.numbers_new ≡ run.numbers_old)
  -- Numbers of rules go to the tally, after those that were there.
  pub numbers : List ℕ
  pub tally : run.numbers_new ≡ run.numbers_old ++ numbers
  -- Rows are those of the tests, and these numbers are exactly those of the evaluated rules.
  pub rows : IfOk run.answer (λ rows. AreRows engines request rows numbers)
