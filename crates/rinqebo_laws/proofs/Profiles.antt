-- What is reported of a test in the profile of a name, whatever the scripts are, agrees.
use Rattle.std.proofs.Common.{◌≡◌, ◌∙◌, ℕ, Bool, List, Option, Some, slice_get, sym, ap, subst}
use Rattle.nextest_elements.specs.declared.run_mode.NextestRunMode.{NextestRunMode}
use Rattle.nextest_engines.specs.Engines.{Test}
use Rattle.nextest_engines.specs.declared.queries.BuildPlatforms.{BuildPlatforms}
use Rattle.nextest_inheritance.proofs.Chains.{lead_default_one}
use Rattle.nextest_inheritance.specs.Parents.{IsChain, Parents, parents_in, with_default}
use Rattle.filter_inputs.specs.Lists.Lists.{ListTest, TestList, list_tests}
use Rattle.nextest_load.specs.Closed.{BinaryMatch}
use Rattle.nextest_load.specs.Config.{ConfigModel, ScriptTables, config_parents}
use Rattle.nextest_settings.specs.Profiles.Profiles.{IsChainAndDefault}
use Rattle.nextest_settings.specs.Profile.{Configured, EarlyModel, EvaluatableModel, profile_of, profile_on}
use Rattle.nextest_settings.specs.Queries.{query_in, setting_origin, setting_value}
use Rattle.nextest_tables.specs.Written.{Name}
use Rattle.rinqebo_request.specs.declared.files.layers.Layer.{Layer}
use Rattle.rinqebo_laws.proofs.Lists.{right_of}
use Rattle.rinqebo_laws.proofs.Ranges.{AreFiles}
use Rattle.rinqebo_laws.proofs.Rows.{all_say_same, keyed_say_same, runs_say_same}
use Rattle.rinqebo_laws.specs.Rows.{AgreeOnTest, AreOneTest, SaySameOfTest}
use Rattle.rinqebo_load.specs.FoundTests.{found_view}
use Rattle.rinqebo_load.specs.declared.found_test.FoundTest.{FoundTest}
use Rattle.rinqebo_report.specs.declared.exact_value.ExactValue.{ExactValue}
use Rattle.rinqebo_report.specs.declared.origin.Origin.{Origin}
use Rattle.rinqebo_report.specs.declared.report.ListScripts.{ListScripts}
use Rattle.rinqebo_report.specs.declared.report.TestRows.{TestRows}
use Rattle.rinqebo_request.specs.declared.request.RequestedSettings.{RequestedSettings}
use Rattle.rinqebo_rules.specs.Rows.{IsTestReported}
use Rattle.rinqebo_rules.specs.Runs.{filtering_place, is_selected, runs_if}
use Rattle.rinqebo_origins.specs.Settings.{reported_settings}
use Rattle.rinqebo_origins.specs.TestOrigins.{wrapping_id}
use Rattle.rinqebo_results.specs.Explained.{IsTestOf}
use Rattle.rinqebo_results.specs.Listed.{AreTestsOf}

module _ {M K P : Type 0} (meets : K → P → Option Bool) (matches : M → Test → M → Bool) (platforms : BuildPlatforms P)
    (root : List ℕ) (config : ConfigModel M K) (layers : List Layer) (profile : Name) where
  abbrev pub parents : Parents
  parents = parents_in (config_parents config)

  -- the configuration with these scripts
  abbrev pub configured : ScriptTables → Configured M K
  configured scripts = record { root = root; config = config; scripts = scripts }

  -- the profile of a chain, with these scripts
  abbrev pub early : ScriptTables → List Name → EarlyModel M K
  early scripts chain = profile_of (configured scripts) profile chain

  abbrev pub on : ScriptTables → List Name → EvaluatableModel M
  on scripts chain = profile_on meets platforms (early scripts chain)

  one_chain : (chain other : List Name) → IsChain parents profile chain → IsChain parents profile other → chain ≡ other
  one_chain chain other is are = lead_default_one parents profile chain other is.leads are.leads

  pub one_default : (names others : List Name) → IsChainAndDefault parents profile names
      → IsChainAndDefault parents profile others → names ≡ others
  one_default names others is are =
      is.is ∙ ap with_default (one_chain is.chain are.chain is.is_chain are.is_chain) ∙ sym are.is

  -- a report of a test
  abbrev pub Reports : ScriptTables → List Name → List Name → ListTest → NextestRunMode → RequestedSettings → TestRows
      → Type 0
  Reports scripts chain names test mode asked rows =
      IsTestReported (record { layers = layers; chain = names }) (query_in matches (on scripts chain) test.test) mode
      (on scripts chain) asked test rows

  -- `explain` reports a test as the profile of the one chain
  pub explained_by : (scripts : ScriptTables) (chain names : List Name) (test : FoundTest) (asked : RequestedSettings)
      (rows : TestRows) → IsChain parents profile chain → IsChainAndDefault parents profile names
      → IsTestOf meets matches platforms (configured scripts) profile test asked layers rows
      → Reports scripts chain names (found_view test) test.mode asked rows
  explained_by scripts chain names test asked rows is_chain are_names is =
      let same : is.is_profile.chain ≡ chain = one_chain is.is_profile.chain chain is.is_profile.is_chain is_chain in
      let profile_is : is.profile ≡ on scripts chain = is.is_profile.is_profile ∙ ap (on scripts) same in
      let there : Reports scripts chain is.chain (found_view test) test.mode asked rows =
      subst (λ p. IsTestReported (record { layers = layers; chain = is.chain })
      (query_in matches p (found_view test).test) test.mode p asked (found_view test) rows) profile_is is.reported in
      subst (λ ns. Reports scripts chain ns (found_view test) test.mode asked rows)
      (one_default is.chain names is.is_chain are_names) there

  -- a report of a test that is found is one of the same test
  pub reported_of_one : (scripts : ScriptTables) (chain names : List Name) (test other : FoundTest)
      (asked : RequestedSettings) (rows : TestRows) → AreOneTest test other
      → Reports scripts chain names (found_view other) other.mode asked rows
      → Reports scripts chain names (found_view test) test.mode asked rows
  reported_of_one scripts chain names test other asked rows same reports =
      subst (λ mode. Reports scripts chain names (found_view test) mode asked rows) (sym same.mode)
      (subst (λ t. Reports scripts chain names t other.mode asked rows) (sym same.test) reports)

  -- two reports of a test agree
  module _ (files : AreFiles layers)
      (scripts others : ScriptTables) (chain names : List Name) (test : ListTest) (mode : NextestRunMode) where
    pub reports_agree : (asked requested : RequestedSettings) (x y : TestRows)
        → Reports scripts chain names test mode asked x → Reports others chain names test mode requested y
        → AgreeOnTest x y
    reports_agree asked requested x y is are =
        let p = on scripts chain in
        let query = query_in matches p test.test in
        let value = setting_value query mode p in
        let origin = setting_origin query mode p in
        record {
          binary = is.binary ∙ sym are.binary;
          name = is.name ∙ sym are.name;
          platform = is.platform ∙ sym are.platform;
          runs = runs_say_same layers files names (filtering_place p) (runs_if (is_selected query p) test.ignored) x.runs
              y.runs is.run_reported are.run_reported;
          ignored = is.ignored_reported ∙ sym are.ignored_reported;
          settings = λ left right has there same.
              keyed_say_same layers files names (wrapping_id query p) value origin mode (reported_settings asked origin)
              (reported_settings requested origin) x.settings.items y.settings.items is.settings_reported
              are.settings_reported left right has there same;
        }

    pub reports_same : (asked : RequestedSettings) (x y : TestRows)
        → Reports scripts chain names test mode asked x → Reports others chain names test mode asked y
        → SaySameOfTest x y
    reports_same asked x y is are =
        let p = on scripts chain in
        let query = query_in matches p test.test in
        let value = setting_value query mode p in
        let origin = setting_origin query mode p in
        record {
          agree = reports_agree asked asked x y is are;
          runs_shown = is.run_shown ∙ sym are.run_shown;
          settings = all_say_same layers files names (wrapping_id query p) value origin mode (reported_settings asked origin)
              x.settings.items y.settings.items is.settings_reported are.settings_reported;
        }

  -- the row of a list and the report of `explain`, of the profile of one chain
  pub record BothReport (scripts others : ScriptTables) (test : FoundTest) (asked requested : RequestedSettings) (n : ℕ)
      (tests : List TestRows) (rows : TestRows) : Type 0 where
    pub chain : List Name
    pub names : List Name
    pub listed : TestRows
    pub there : slice_get tests n ≡ Some listed
    pub is : Reports scripts chain names (found_view test) test.mode asked rows
    pub are : Reports others chain names (found_view test) test.mode requested listed

  pub both_report : (matches_binary : BinaryMatch M) (list : TestList) (scripts others : ScriptTables) (test : FoundTest)
      (asked requested : RequestedSettings) (n : ℕ) (tests : List TestRows) (unused : List Origin)
      (list_scripts : ListScripts) (objects : Option ExactValue) (rows : TestRows)
      → AreTestsOf meets matches matches_binary platforms (configured others) profile test.mode requested layers list tests
      unused list_scripts objects
      → IsTestOf meets matches platforms (configured scripts) profile test asked layers rows
      → slice_get (list_tests list) n ≡ Some (found_view test)
      → BothReport scripts others test asked requested n tests rows
  both_report matches_binary list scripts others test asked requested n tests unused list_scripts objects rows are is there =
      let chain = are.is_profile.chain in
      let p_is : are.profile ≡ on others chain = are.is_profile.is_profile in
      let Is : ListTest → TestRows → Type 0 =
      λ t. IsTestReported (record { layers = layers; chain = are.chain }) (query_in matches are.profile t.test) test.mode
      are.profile requested t in
      let it = right_of Is (list_tests list) tests n (found_view test) are.tests_reported there in
      record {
        chain = chain;
        names = are.chain;
        listed = it.0;
        there = it.1;
        is = explained_by scripts chain are.chain test asked rows are.is_profile.is_chain are.is_chain is;
        are = subst (λ p. IsTestReported (record { layers = layers; chain = are.chain })
            (query_in matches p (found_view test).test) test.mode p requested (found_view test) it.0) p_is it.2;
      }
