-- Why a test runs or not, put together, and moved from what was read to what it means.
use Rattle.std.proofs.Common.{◌≡◌, ◌∙◌, ℕ, Bool, true, false, cond, not, List, [], ◌∷◌, ◌++◌, map, filter, Option, None, Some, option_map, is_some, ap, codes, refl, sym, subst, string_bytes}
use Rattle.std.specs.List.{list_any}
use Rattle.filter_language.specs.Filtersets.{marks_view}
use Rattle.filter_language.specs.declared.filterset.Filterset.{Filterset}
use Rattle.nextest_engines.specs.Engines.{Test, test_view}
use Rattle.nextest_engines.specs.declared.queries.BuildPlatform.TheVariants.{Target}
use Rattle.nextest_engines.specs.declared.queries.BuildPlatforms.{BuildPlatforms}
use Rattle.nextest_engines.specs.declared.queries.TestQuery.{TestQuery}
use Rattle.filter_engine.specs.Compiling.{names_of}
use Rattle.filter_engine.specs.declared.compiling.FieldMatcher.{FieldMatcher}
use Rattle.nextest_inheritance.specs.Parents.{parents_in, with_default, IsChain}
use Rattle.nextest_load.specs.Config.{ConfigModel, config_parents}
use Rattle.nextest_load.specs.Load.{Loaded}
use Rattle.nextest_load.specs.Meaning.{config_meaning}
use Rattle.nextest_settings.proofs.MeaningOfTexts.{overrides_meaning, profile_means}
use Rattle.nextest_settings.specs.Profiles.Profiles.{IsChainAndDefault}
use Rattle.nextest_settings.specs.Profiles.Meaning.{with_config, configured_meaning}
use Rattle.nextest_rules.specs.Meaning.{written_meaning, override_meaning}
use Rattle.nextest_rules.specs.Rules.{Compiled, OverrideUse}
use Rattle.nextest_settings.specs.Chains.{FilterChoice}
use Rattle.nextest_settings.specs.Platforms.{runs_on}
use Rattle.nextest_settings.specs.Profile.{Configured, EarlyModel, profile_of, profile_on}
use Rattle.nextest_tables.specs.FileTexts.{names_in, IsIn}
use Rattle.nextest_tables.specs.Written.{Name}
use Rattle.platform_language.specs.Expressions.{spec_view}
use Rattle.platform_language.specs.declared.expression.TargetSpec.{TargetSpec}
use Rattle.platform_language.specs.declared.platforms.Platform.{Platform}
use Rattle.rinqebo_request.specs.declared.files.layers.Layer.{Layer as FileLayer}
use Rattle.rinqebo_load.specs.Accepted.{AreAccepted}
use Rattle.rinqebo_load.specs.FoundTests.{found_view}
use Rattle.rinqebo_load.specs.Sessions.{files_view, readings, IsLoadedFrom}
use Rattle.rinqebo_load.specs.declared.found_test.FoundTest.{FoundTest}
use Rattle.rinqebo_load.specs.declared.session.Session.{Session}
use Rattle.rinqebo_report.specs.declared.report.Content.{Content}
use Rattle.rinqebo_report.specs.declared.report.Report.{Report}
use Rattle.rinqebo_report.specs.declared.report.Rule.{Rule}
use Rattle.rinqebo_report.specs.declared.report.TestId.{TestId}
use Rattle.rinqebo_report.specs.declared.report.Verdict.TheVariants as told
use Rattle.rinqebo_rules.specs.Conditions.{is_met_by, filter_matches}
use Rattle.rinqebo_rules.specs.FilterRules.{FilterRule, filter_facts, filter_rule_on, filter_rule_view, filter_rules, has_default}
use Rattle.rinqebo_origins.specs.ProfileOrigins.{AreProfileOrigins}
use Rattle.rinqebo_origins.specs.RulePlaces.{id_place}
use Rattle.rinqebo_origins.specs.Reported.{value_view}
use Rattle.rinqebo_rules.specs.VerdictsBy.{verdicts_by}
use Rattle.rinqebo_rules.specs.declared.chain_rules.SettingRule.{SettingRule}
use Rattle.rinqebo_rules.specs.declared.verdict.RuleVerdict.{RuleVerdict}
use Rattle.rinqebo_rules.proofs.ListedTests.{made_twice}
use Rattle.rinqebo_run.proofs.Gathering.{why_moved}
use Rattle.rinqebo_run.proofs.Meant.{condition_meant, read_meets, specs_meant}
use Rattle.rinqebo_run.proofs.Pairs.{zip_moved}
use Rattle.rinqebo_results.proofs.Requests.{requested_meant}
use Rattle.rinqebo_results.specs.Requested.{IsRequestedIn}
use Rattle.rinqebo_results.specs.ConditionTexts.{HasText, IsAbsent, default_text}
use Rattle.rinqebo_results.specs.RunsReasons.{AreFilterRulesReported, AreHeldReported, AreRunsReasons, AreRunsReasonsIn, AreRunsReported, IsFilterRuleReported, ReportsRunsReasons, default_answer, default_value, filter_verdicts, is_decision, is_selected_on}
use Rattle.rinqebo_results.specs.ReportsReasons.{IfWhy, IsTestNamed, configured_by}

-- the verdicts of rules as code holds them
held_verdicts : (rules : List SettingRule) (found : List FilterRule) → map filter_rule_view rules ≡ found
    → verdicts_by false (map (λ rule. rule.facts) rules) ≡ filter_verdicts found
held_verdicts rules found same =
    ap (verdicts_by false) (sym (made_twice (λ rule. rule.facts) filter_rule_view rules)
    ∙ ap (map (λ rule. rule.facts)) same)

-- rules that code holds are reported as those of a profile
reported_found : (layers : List FileLayer) (matches : Bool) (rules : List SettingRule) (found : List FilterRule)
    (given : List RuleVerdict) (told : List Rule) → map filter_rule_view rules ≡ found
    → AreHeldReported layers matches rules given told → AreFilterRulesReported layers matches found given told
reported_found layers matches rules found given told same all =
    subst (λ found. AreFilterRulesReported layers matches found given told) same
    (zip_moved filter_rule_view (λ p. IsFilterRuleReported layers matches (filter_rule_view p.0) p.1)
    (λ p. IsFilterRuleReported layers matches p.0 p.1) (λ r v rule is. is) rules given told all)

-- what is reported of the overrides that have a default filter, and then of the fallback
pub runs_here : (layers : List FileLayer) (platforms : BuildPlatforms Platform) (test : FoundTest) (query : TestQuery)
    (default : FilterChoice (Filterset FieldMatcher)) (profile : EarlyModel (Filterset FieldMatcher) TargetSpec)
    (matches : Bool) (held : List SettingRule) (given : List RuleVerdict) (before : List Rule) (fallback : Rule)
    (rules : List Rule) (chain : List Name)
    → default ≡ (profile_on is_met_by platforms profile).default_filter
    → test_view query ≡ (found_view test).test
    → matches ≡ filter_matches default.filter (test_view query) default.filter
    → map filter_rule_view held ≡ filter_rules is_met_by platforms profile.overrides
    → given ≡ verdicts_by false (map (λ rule. rule.facts) held)
    → AreHeldReported layers matches held given before
    → fallback.verdict ≡ told.Fallback
    → fallback.filter.answer ≡ default_answer (not (list_any is_decision given)) matches
    → option_map value_view fallback.value ≡ default_value (not (list_any is_decision given)) matches
    → AreProfileOrigins layers chain None (codes "default-filter") (fallback.origin ∷ fallback.others.items)
    → HasText (default_text layers fallback.origin) fallback.filter
    → IsAbsent fallback.host → IsAbsent fallback.target
    → rules ≡ before ++ fallback ∷ []
    → AreRunsReasons layers chain is_met_by filter_matches platforms test profile rules
runs_here layers platforms test query default profile matches held given before fallback rules chain same asked selected
    found verdicts here last filtered valued origins text host target are =
    let overrides = filter_rules is_met_by platforms profile.overrides in
    let all : given ≡ filter_verdicts overrides = verdicts ∙ held_verdicts held overrides found in
    let there : matches ≡ is_selected_on filter_matches (profile_on is_met_by platforms profile) (found_view test).test =
    selected ∙ (λ i. filter_matches (same i).filter (asked i) (same i).filter) in
    let whole : AreRunsReported layers chain overrides matches rules = record {
      before = before;
      fallback = fallback;
      are = are;
      rules_reported = subst (λ vs. AreFilterRulesReported layers matches overrides vs before) all
          (reported_found layers matches held overrides given before found here);
      fallback_reported = last;
      fallback_filter = filtered ∙ ap (λ vs. default_answer (not (list_any is_decision vs)) matches) all;
      fallback_value = valued ∙ ap (λ vs. default_value (not (list_any is_decision vs)) matches) all;
      fallback_origins = origins;
      fallback_text = text;
      fallback_host = host;
      fallback_target = target;
    } in
    subst (λ m. AreRunsReported layers chain overrides m rules) there whole

-- something that is there is there by what it means
some_meant : {E M : Type 0} (f : E → M) (o : Option E) → is_some o ≡ is_some (option_map f o)
some_meant f None = refl
some_meant f (Some e) = refl

-- what is made of elements that are kept alike
kept_alike : {X Y Z : Type 0} (f : X → Z) (g : Y → Z) (a b : Bool) (x : X) (y : Y) (xs : List X) (ys : List Y)
    → a ≡ b → f x ≡ g y → map f xs ≡ map g ys → map f (cond a (x ∷ xs) xs) ≡ map g (cond b (y ∷ ys) ys)
kept_alike f g true true x y xs ys same one rest = λ i. one i ∷ rest i
kept_alike f g false false x y xs ys same one rest = rest
kept_alike f g true false x y xs ys same one rest = absurd cc
kept_alike f g false true x y xs ys same one rest = absurd cc

module _ {E N M K P : Type 0} (f : E → M) (g : N → K) (meets : K → P → Option Bool)
    (platforms : BuildPlatforms P) where
  one_meant : (r : Compiled E N (OverrideUse E))
      → filter_rule_on (read_meets f g meets platforms) platforms r
      ≡ filter_rule_on meets platforms (override_meaning f g r)
  one_meant r =
      let holds = specs_meant f g meets platforms Target r.host r.target in
      let host = condition_meant f g meets platforms platforms.host r.host in
      let target = condition_meant f g meets platforms (runs_on platforms Target) r.target in
      λ i. record {
        place = id_place r.writes.id;
        facts = filter_facts (holds i);
        host = host i;
        target = target i;
      }

  -- what is found out of overrides that have a default filter
  filters_meant : (rs : List (Compiled E N (OverrideUse E)))
      → filter_rules (read_meets f g meets platforms) platforms rs
      ≡ filter_rules meets platforms (map (override_meaning f g) rs)
  filters_meant [] = refl
  filters_meant (r ∷ rs) =
      kept_alike (filter_rule_on (read_meets f g meets platforms) platforms) (filter_rule_on meets platforms)
      (has_default r) (has_default (override_meaning f g r)) r (override_meaning f g r)
      (filter has_default rs) (filter has_default (map (override_meaning f g) rs))
      (some_meant (written_meaning f) r.writes.default_filter) (one_meant r) (filters_meant rs)

  module _ (layers : List FileLayer) (matches : M → Test → M → Bool) (test : FoundTest)
      (c : Configured E N) (name : Name) (rules : List Rule) where
    abbrev pub matches_read : E → Test → E → Bool
    matches_read e asked default = matches (f e) asked (f default)

    runs_meant : (names chain : List Name)
        → AreRunsReasons layers names (read_meets f g meets platforms) matches_read platforms test (profile_of c name chain)
        rules
        → AreRunsReasons layers names meets matches platforms test (profile_of (configured_meaning f g c) name chain) rules
    runs_meant names chain is =
        let profile = profile_of c name chain in
        let meant = profile_of (configured_meaning f g c) name chain in
        let asked = (found_view test).test in
        let found : filter_rules (read_meets f g meets platforms) platforms profile.overrides
        ≡ filter_rules meets platforms meant.overrides =
        filters_meant profile.overrides
        ∙ (λ i. filter_rules meets platforms (overrides_meaning f g c.config.layers (with_default chain) i)) in
        let default : f (profile_on (read_meets f g meets platforms) platforms profile).default_filter.filter
        ≡ (profile_on meets platforms meant).default_filter.filter =
        ap (λ p. p.default_filter.filter) (profile_means f g meets platforms c name chain) in
        subst (λ found. AreRunsReported layers names found
        (is_selected_on matches (profile_on meets platforms meant) asked) rules) found
        (subst (λ m. AreRunsReported layers names (filter_rules (read_meets f g meets platforms) platforms profile.overrides) m
        rules)
        (ap (λ d. matches d asked d) default) is)

    -- why a test runs or not in a profile, by what texts mean
    pub runs_of_texts : (texts : ConfigModel M K) → config_meaning f g c.config ≡ texts
        → AreRunsReasonsIn layers (read_meets f g meets platforms) matches_read platforms c name test rules
        → AreRunsReasonsIn layers meets matches platforms (with_config c texts) name test rules
    runs_of_texts texts same is =
        let chain = is.is_profile.chain in
        record {
          profile = profile_of (with_config c texts) name chain;
          is_profile = record {
            chain = chain;
            is_chain = subst (λ config. IsChain (parents_in (config_parents config)) name chain) same
                is.is_profile.is_chain;
            is_profile = refl;
          };
          chain = is.chain;
          is_chain = subst (λ config. IsChainAndDefault (parents_in (config_parents config)) name is.chain) same is.is_chain;
          reasons = subst (λ config. AreRunsReasons layers is.chain meets matches platforms test
              (profile_of (with_config c config) name chain) rules) same
              (runs_meant is.chain chain
              (subst (λ p. AreRunsReasons layers is.chain (read_meets f g meets platforms) matches_read platforms test p rules)
              is.is_profile.is_profile is.reasons));
        }

-- a report tells why a test runs or not by what was loaded
pub tells_runs : (session : Session) (profile : Name) (test : FoundTest) (report : Report) (content : Content)
    (loaded : Loaded (Filterset FieldMatcher) TargetSpec)
    → AreAccepted session
    → IsLoadedFrom (readings session.engines.filters) (files_view session.gathered.now) loaded
    → IsIn (names_in loaded.config.profiles) profile → report.content ≡ content
    → IfWhy content (λ named key rules ignored. IsTestNamed test named × (key ≡ codes "runs")
    × (ignored ≡ test.ignored)
    × AreRunsReasonsIn session.layers.items is_met_by filter_matches session.engines.platforms (record {
      root = string_bytes session.gathered.now.paths.workspace_root;
      config = loaded.config;
      scripts = loaded.scripts;
    }) profile test rules)
    → IsRequestedIn session (parents_in (config_parents loaded.config)) profile test.mode content
    → ReportsRunsReasons session profile test report
tells_runs session profile test report content loaded accepted from there same is requested =
    let engines = readings session.engines.filters in
    let read : Configured (Filterset FieldMatcher) TargetSpec = record {
      root = string_bytes session.gathered.now.paths.workspace_root;
      config = loaded.config;
      scripts = loaded.scripts;
    } in
    let Read : TestId → List ℕ → List Rule → Bool → Type 0 =
    λ named key rules ignored. IsTestNamed test named × (key ≡ codes "runs") × (ignored ≡ test.ignored)
    × AreRunsReasonsIn session.layers.items is_met_by filter_matches session.engines.platforms read profile test rules in
    let Meant : TestId → List ℕ → List Rule → Bool → Type 0 =
    λ named key rules ignored. IsTestNamed test named × (key ≡ codes "runs") × (ignored ≡ test.ignored)
    × AreRunsReasonsIn session.layers.items engines.meets engines.matches_test session.engines.platforms
    (configured_by session loaded.scripts) profile test rules in
    record {
      acceptance = accepted;
      scripts = loaded.scripts;
      are_scripts = from.scripts;
      known = subst (λ config. IsIn (names_in config.profiles) profile) from.means there;
      told = why_moved report.content Read Meant
          (λ named key rules ignored h. (
            h.0,
            h.1,
            h.2,
            runs_of_texts (marks_view names_of) spec_view engines.meets session.engines.platforms
                session.layers.items engines.matches_test test read profile rules _ from.means h.3,
          ))
          (subst (λ content. IfWhy content Read) (sym same) is);
      requested = requested_meant session profile test.mode report.content content loaded from same requested;
    }
