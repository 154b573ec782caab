-- Why a test runs or not: the overrides that have a default filter, the result of each, and how a
-- report lists them.
use Rattle.std.specs.Prelude.{◌≡◌, ℕ, List, [], ◌∷◌, ◌++◌, Bool, true, false, not, map, None, Option, Some, option_map, codes}
use Rattle.std.specs.List.{AllZip, list_any, zip}
use Rattle.nextest_engines.specs.Engines.{Test}
use Rattle.nextest_engines.specs.declared.queries.BuildPlatforms.{BuildPlatforms}
use Rattle.nextest_inheritance.specs.Parents.{parents_in}
use Rattle.nextest_load.specs.Config.{ScriptTables, config_parents}
use Rattle.nextest_load.specs.Scripts.{AreScriptsOf}
use Rattle.nextest_settings.specs.Profiles.Profiles.{IsChainAndDefault, IsProfileOf}
use Rattle.nextest_settings.specs.Profile.{Configured, EarlyModel, EvaluatableModel, profile_on}
use Rattle.nextest_settings.specs.Queries.{query_in}
use Rattle.nextest_sources.specs.Inputs.{sources_in}
use Rattle.nextest_tables.specs.FileTexts.{names_in, IsIn}
use Rattle.nextest_tables.specs.Written.{Name}
use Rattle.rinqebo_request.specs.declared.files.layers.Layer.{Layer}
use Rattle.rinqebo_load.specs.Accepted.{AreAccepted}
use Rattle.rinqebo_load.specs.FoundTests.{found_view}
use Rattle.rinqebo_load.specs.Meant.{config_meant}
use Rattle.rinqebo_load.specs.Sessions.{files_view, readings}
use Rattle.rinqebo_load.specs.declared.found_test.FoundTest.{FoundTest}
use Rattle.rinqebo_load.specs.declared.session.Session.{Session}
use Rattle.rinqebo_report.specs.declared.report.ConditionAnswer.{ConditionAnswer}
use Rattle.rinqebo_report.specs.declared.report.ConditionAnswer.TheVariants as says
use Rattle.rinqebo_report.specs.declared.report.Report.{Report}
use Rattle.rinqebo_report.specs.declared.report.Rule.{Rule}
use Rattle.rinqebo_report.specs.declared.report.Verdict.TheVariants as told
use Rattle.rinqebo_rules.specs.Conditions.{reported_answer}
use Rattle.rinqebo_rules.specs.FilterRules.{FilterRule, filter_rule_view, filter_rules}
use Rattle.rinqebo_origins.specs.Origins.{IsOriginOf}
use Rattle.rinqebo_origins.specs.ProfileOrigins.{AreProfileOrigins}
use Rattle.rinqebo_rules.specs.Runs.{is_selected}
use Rattle.rinqebo_origins.specs.Reported.{ReportedScalar, ReportedValue, value_view}
use Rattle.rinqebo_rules.specs.VerdictsBy.{verdicts_by}
use Rattle.rinqebo_rules.specs.declared.chain_rules.SettingRule.{SettingRule}
use Rattle.rinqebo_rules.specs.declared.verdict.RuleVerdict.{RuleVerdict}
use Rattle.rinqebo_rules.specs.declared.verdict.RuleVerdict.TheVariants as verdicts
use Rattle.rinqebo_results.specs.ConditionTexts.{AreTextsReported, HasText, IsAbsent, default_text}
use Rattle.rinqebo_results.specs.Reasons.{page_verdict}
use Rattle.rinqebo_results.specs.Requested.{IsRequestedIn}
use Rattle.rinqebo_results.specs.ReportsReasons.{IfWhy, IsTestNamed, configured_by}

-- What a report says of a default filter and a test, by whether the filter is the one that counts
-- and whether that one matches the test: the program evaluates only the one that counts.
abbrev pub default_answer : Bool → Bool → ConditionAnswer
default_answer true matches = reported_answer (Some matches)
default_answer false matches = says.Unrequested

-- Whether a test runs by a default filter, as a report shows it: for the one that counts alone.
abbrev pub default_value : Bool → Bool → Option ReportedValue
default_value true matches = Some (ReportedValue.scalar (ReportedScalar.boolean matches))
default_value false matches = None

-- whether a verdict is that a rule decides
abbrev pub is_decision : RuleVerdict → Bool
is_decision verdicts.PlatformNo = false
is_decision verdicts.FilterNo = false
is_decision verdicts.SetsNothing = false
is_decision verdicts.DecidedBefore = false
is_decision verdicts.Decides = true

-- the verdicts on overrides that have a default filter: the first one whose platforms hold decides
abbrev pub filter_verdicts : List FilterRule → List RuleVerdict
filter_verdicts rules = verdicts_by false (map (λ rule. rule.facts) rules)

-- A report has an override with a default filter: its verdict, its place in the layers, what its
-- platforms say, whether the test runs by its default filter, if that is the one that counts, and
-- the texts of these.
pub record IsFilterRuleReported (layers : List Layer) (matches : Bool) (found : FilterRule)
    (verdict : RuleVerdict) (rule : Rule) : Type 0 where
  pub verdict_reported : rule.verdict ≡ page_verdict verdict
  pub origin : IsOriginOf layers found.place [] rule.origin
  pub others : rule.others.items ≡ []
  pub host : rule.host.answer ≡ found.host
  pub target : rule.target.answer ≡ found.target
  pub filter : rule.filter.answer ≡ default_answer (is_decision verdict) matches
  pub texts : AreTextsReported layers (default_text layers rule.origin) rule
  pub value : option_map value_view rule.value ≡ default_value (is_decision verdict) matches

-- a report lists overrides that have a default filter, with verdicts
abbrev pub AreFilterRulesReported :
    List Layer → Bool → List FilterRule → List RuleVerdict → List Rule → Type 0
AreFilterRulesReported layers matches rules given told = AllZip
    (λ (p : FilterRule × RuleVerdict). IsFilterRuleReported layers matches p.0 p.1)
    (zip rules given) told

-- the same of rules as code holds them
abbrev pub AreHeldReported :
    List Layer → Bool → List SettingRule → List RuleVerdict → List Rule → Type 0
AreHeldReported layers matches rules given told = AllZip
    (λ (p : SettingRule × RuleVerdict).
    IsFilterRuleReported layers matches (filter_rule_view p.0) p.1)
    (zip rules given) told

-- A report lists why a test runs or not, by the overrides that have a default filter and whether
-- the one that counts matches the test: these overrides in order, with the result of each, and then
-- the default filter of a chain of profiles, which counts where none of them decides.
pub record AreRunsReported (layers : List Layer) (chain : List Name) (found : List FilterRule)
    (matches : Bool) (rules : List Rule) : Type 0 where
  pub before : List Rule
  pub fallback : Rule
  pub are : rules ≡ before ++ fallback ∷ []
  pub rules_reported : AreFilterRulesReported layers matches found (filter_verdicts found) before
  pub fallback_reported : fallback.verdict ≡ told.Fallback
  pub fallback_filter : fallback.filter.answer
      ≡ default_answer (not (list_any is_decision (filter_verdicts found))) matches
  pub fallback_value : option_map value_view fallback.value
      ≡ default_value (not (list_any is_decision (filter_verdicts found))) matches
  pub fallback_origins : AreProfileOrigins layers chain None (codes "default-filter")
      (fallback.origin ∷ fallback.others.items)
  pub fallback_text : HasText (default_text layers fallback.origin) fallback.filter
  pub fallback_host : IsAbsent fallback.host
  pub fallback_target : IsAbsent fallback.target

-- whether the default filter that counts in a profile matches a test
abbrev pub is_selected_on : {M : Type 0} → (M → Test → M → Bool) → EvaluatableModel M → Test
    → Bool
is_selected_on matches profile test = is_selected (query_in matches profile test) profile

-- A report lists why a test runs or not in a profile, on the platforms of a build.
abbrev pub AreRunsReasons : {M K P : Type 0} → List Layer → List Name → (K → P → Option Bool)
    → (M → Test → M → Bool) → BuildPlatforms P → FoundTest → EarlyModel M K → List Rule
    → Type 0
AreRunsReasons layers chain meets matches platforms test profile rules =
    AreRunsReported layers chain (filter_rules meets platforms profile.overrides)
    (is_selected_on matches (profile_on meets platforms profile) (found_view test).test) rules

-- A report lists why a test runs or not in the profile of a name. The default filter that counts
-- where no override decides comes from the chain of the profile.
pub record AreRunsReasonsIn {M K P : Type 0} (layers : List Layer) (meets : K → P → Option Bool)
    (matches : M → Test → M → Bool) (platforms : BuildPlatforms P) (configured : Configured M K)
    (name : Name) (test : FoundTest) (rules : List Rule) : Type 0 where
  pub profile : EarlyModel M K
  pub is_profile : IsProfileOf configured name profile
  pub chain : List Name
  pub is_chain : IsChainAndDefault (parents_in (config_parents configured.config)) name chain
  pub reasons : AreRunsReasons layers chain meets matches platforms test profile rules

-- A report lists why a test runs or not in a profile, by what the files mean.
pub record ReportsRunsReasons (session : Session) (profile : List ℕ) (test : FoundTest)
    (report : Report) : Type 0 where
  -- Every written rule holds of the files.
  pub acceptance : AreAccepted session
  -- Their scripts are those that they define.
  pub scripts : ScriptTables
  pub are_scripts : AreScriptsOf (sources_in (files_view session.gathered.now)) scripts
  -- They have the profile.
  pub known : IsIn (names_in (configured_by session scripts).config.profiles) profile
  -- The report names the test, and shows the result of each override that has a default filter, and
  -- whether the test is ignored.
  pub told : IfWhy report.content (λ named key rules ignored. IsTestNamed test named
      × (key ≡ codes "runs") × (ignored ≡ test.ignored)
      × AreRunsReasonsIn session.layers.items (readings session.engines.filters).meets
      (readings session.engines.filters).matches_test session.engines.platforms
      (configured_by session scripts) profile test rules)
  -- It says what the user requests.
  pub requested : IsRequestedIn session (parents_in (config_parents (config_meant session))) profile
      test.mode report.content
