-- What is reported of rules as they were read is reported of what they mean.
use Rattle.std.proofs.Common.{◌≡◌, ◌∙◌, ◌&&◌, Bool, true, false, if◌then◌else◌, List, [], ◌∷◌, map, Option, None, Some, option_map, ap, refl, sym, subst}
use Rattle.std.specs.List.{AllZip, zip}
use Rattle.nextest_elements.specs.declared.run_mode.NextestRunMode.{NextestRunMode}
use Rattle.nextest_engines.specs.Engines.{Test}
use Rattle.nextest_engines.specs.declared.queries.BuildPlatform.{BuildPlatform}
use Rattle.nextest_engines.specs.declared.queries.BuildPlatform.TheVariants.{Host, Target}
use Rattle.nextest_engines.specs.declared.queries.BuildPlatforms.{BuildPlatforms}
use Rattle.nextest_inheritance.specs.Parents.{parents_in, with_default, IsChain}
use Rattle.nextest_load.specs.Config.{ConfigModel, config_parents}
use Rattle.nextest_load.specs.Meaning.{config_meaning}
use Rattle.nextest_settings.proofs.MeaningOfTexts.{overrides_meaning, script_rules_meaning, profile_means}
use Rattle.nextest_settings.specs.Profiles.Profiles.{IsChainAndDefault}
use Rattle.nextest_settings.specs.Profiles.Meaning.{with_config, configured_meaning}
use Rattle.nextest_rules.specs.Meaning.{rule_meaning, override_meaning, script_rule_meaning}
use Rattle.nextest_rules.specs.Rules.{Compiled, OverrideUse, ScriptRuleUse}
use Rattle.nextest_settings.specs.Deciding.{QueryContext}
use Rattle.nextest_settings.specs.Platforms.{spec_holds, specs_hold, runs_on, rule_on, is_on, by_platform}
use Rattle.nextest_settings.specs.Profile.{Configured, profile_of, profile_on}
use Rattle.nextest_elements.specs.declared.setting.Setting.{Setting}
use Rattle.nextest_tables.specs.Written.{Name}
use Rattle.rinqebo_request.specs.declared.files.layers.Layer.{Layer as FileLayer}
use Rattle.rinqebo_report.specs.declared.report.Rule.{Rule}
use Rattle.rinqebo_load.specs.declared.found_test.FoundTest.{FoundTest}
use Rattle.rinqebo_load.specs.FoundTests.{found_view}
use Rattle.rinqebo_rules.proofs.Judged.{filter_meant}
use Rattle.rinqebo_rules.proofs.VerdictsOf.{verdicts-facts}
use Rattle.rinqebo_run.proofs.Pairs.{zip_moved}
use Rattle.rinqebo_rules.specs.Verdicts.{facts_of, verdicts_of}
use Rattle.rinqebo_rules.specs.VerdictsBy.{verdicts_by}
use Rattle.rinqebo_rules.specs.declared.verdict.RuleVerdict.{RuleVerdict}
use Rattle.rinqebo_rules.specs.Conditions.{reported_condition, requested_if}
use Rattle.rinqebo_rules.specs.RuleAnswers.{answers_by}
use Rattle.rinqebo_results.specs.Reasons.{IsRuleReported, AreRulesReported}
use Rattle.rinqebo_rules.specs.SettingRules.{RuleFor, writes_it, for_setting, override_writes, wrapper_written, is_of_scripts, rules_for}
use Rattle.rinqebo_results.specs.ReportsReasons.{AreReasons, AreReasonsIn}

-- what is made of one of two lists
map_if : {X Y : Type 0} (h : X → Y) (b : Bool) (xs ys : List X)
    → map h (if b then xs else ys) ≡ (if b then map h xs else map h ys)
map_if h true xs ys = refl
map_if h false xs ys = refl

module _ {E N M K P : Type 0} (f : E → M) (g : N → K) (meets : K → P → Option Bool)
    (platforms : BuildPlatforms P) where
  -- whether a spec that was read is met
  abbrev pub read_meets : N → P → Option Bool
  read_meets spec platform = meets (g spec) platform

  pub spec_meant : (platform : P) (o : Option N)
      → spec_holds read_meets o platform ≡ spec_holds meets (option_map g o) platform
  spec_meant platform None = refl
  spec_meant platform (Some spec) = refl

  pub specs_meant : (build : BuildPlatform) (host target : Option N)
      → specs_hold read_meets platforms build host target
      ≡ specs_hold meets platforms build (option_map g host) (option_map g target)
  specs_meant build host target =
      λ i. spec_meant platforms.host host i && spec_meant (runs_on platforms build) target i

  pub condition_meant : (platform : P) (o : Option N)
      → reported_condition (λ spec. read_meets spec platform) o
      ≡ reported_condition (λ spec. meets spec platform) (option_map g o)
  condition_meant platform None = refl
  condition_meant platform (Some spec) = refl

  module _ (query : QueryContext M) where
    -- what is judged, by filters that were read
    abbrev pub read_query : QueryContext E
    read_query = record { platform = query.platform; matches = λ e. query.matches (f e) }

    reported_meant : (o : Option E)
        → reported_condition (λ e. Some (query.matches (f e))) o
        ≡ reported_condition (λ m. Some (query.matches m)) (option_map f o)
    reported_meant None = refl
    reported_meant (Some e) = refl

    -- whether a rule is on the platforms of the build
    on_meant : {W : Type 0} (r : Compiled E N W)
        → is_on (rule_on read_meets platforms r) query.platform
        ≡ is_on (rule_on meets platforms (rule_meaning f g (λ w. w) r)) query.platform
    on_meant r = λ i. by_platform (specs_meant Host r.host r.target i) (specs_meant Target r.host r.target i) query.platform

    -- what the conditions of a rule say
    answers_meant : {W : Type 0} (r : Compiled E N W)
        → answers_by read_meets platforms read_query r
        ≡ answers_by meets platforms query (rule_meaning f g (λ w. w) r)
    answers_meant r =
        let host = condition_meant platforms.host r.host in
        let target = condition_meant (runs_on platforms query.platform) r.target in
        λ i. record {
          host = host i;
          target = target i;
          filter = requested_if (on_meant r i) (reported_meant r.filter i);
        }

    facts_meant : (r : RuleFor E N)
        → facts_of read_query writes_it (rule_on read_meets platforms r)
        ≡ facts_of query writes_it (rule_on meets platforms (rule_meaning f g (λ w. w) r))
    facts_meant r = λ i. record {
      is_on = on_meant r i;
      holds = on_meant r i && sym (filter_meant f query.matches r.filter) i;
      writes = writes_it r.writes;
    }

    all_facts_meant : (rs : List (RuleFor E N))
        → map (facts_of read_query writes_it) (map (rule_on read_meets platforms) rs)
        ≡ map (facts_of query writes_it) (map (rule_on meets platforms) (map (rule_meaning f g (λ w. w)) rs))
    all_facts_meant [] = refl
    all_facts_meant (r ∷ rs) = λ i. facts_meant r i ∷ all_facts_meant rs i

    -- the result of rules
    verdicts_meant : (rs : List (RuleFor E N))
        → verdicts_of read_query writes_it (map (rule_on read_meets platforms) rs)
        ≡ verdicts_of query writes_it (map (rule_on meets platforms) (map (rule_meaning f g (λ w. w)) rs))
    verdicts_meant rs =
        verdicts-facts read_query writes_it (map (rule_on read_meets platforms) rs)
        ∙ ap (verdicts_by false) (all_facts_meant rs)
        ∙ sym (verdicts-facts query writes_it (map (rule_on meets platforms) (map (rule_meaning f g (λ w. w)) rs)))

    -- what is reported of rules for a setting
    rules_meant : (layers : List FileLayer) (rs : List (RuleFor E N)) (rules : List Rule)
        → AreRulesReported layers read_meets platforms read_query rs rules
        → AreRulesReported layers meets platforms query (map (rule_meaning f g (λ w. w)) rs) rules
    rules_meant layers rs rules all =
        let R : RuleFor E N × RuleVerdict → Rule → Type 0 =
        λ p. IsRuleReported layers p.0.writes (answers_by read_meets platforms read_query p.0) p.1 in
        let S : RuleFor M K × RuleVerdict → Rule → Type 0 =
        λ p. IsRuleReported layers p.0.writes (answers_by meets platforms query p.0) p.1 in
        subst (λ vs. AllZip S (zip (map (rule_meaning f g (λ w. w)) rs) vs) rules) (verdicts_meant rs)
        (zip_moved (rule_meaning f g (λ w. w)) R S
        (λ r v rule is. subst (λ answers. IsRuleReported layers r.writes answers v rule) (answers_meant r) is)
        rs (verdicts_of read_query writes_it (map (rule_on read_meets platforms) rs)) rules all)

  module _ (s : Setting) (mode : NextestRunMode) where
    -- overrides for a setting
    overrides_for : (rs : List (Compiled E N (OverrideUse E)))
        → map (rule_meaning f g (λ w. w)) (map (for_setting (override_writes s mode)) rs)
        ≡ map (for_setting (override_writes s mode)) (map (override_meaning f g) rs)
    overrides_for [] = refl
    overrides_for (r ∷ rs) =
        λ i. for_setting (override_writes s mode) (override_meaning f g r) ∷ overrides_for rs i

    -- script rules for a run wrapper
    scripts_for : (rs : List (Compiled E N ScriptRuleUse))
        → map (rule_meaning f g (λ w. w)) (map (for_setting wrapper_written) rs)
        ≡ map (for_setting wrapper_written) (map (script_rule_meaning f g) rs)
    scripts_for [] = refl
    scripts_for (r ∷ rs) = λ i. for_setting wrapper_written (script_rule_meaning f g r) ∷ scripts_for rs i

    -- the rules of a profile for a setting
    rules_meaning : (overrides : List (Compiled E N (OverrideUse E))) (scripts : List (Compiled E N ScriptRuleUse))
        → map (rule_meaning f g (λ w. w)) (rules_for s mode overrides scripts)
        ≡ rules_for s mode (map (override_meaning f g) overrides) (map (script_rule_meaning f g) scripts)
    rules_meaning overrides scripts =
        map_if (rule_meaning f g (λ w. w)) (is_of_scripts s) (map (for_setting wrapper_written) scripts)
        (map (for_setting (override_writes s mode)) overrides)
        ∙ (λ i. if is_of_scripts s then scripts_for scripts i else overrides_for overrides i)

  module _ (layers : List FileLayer) (matches : M → Test → M → Bool) (test : FoundTest) (s : Setting)
      (c : Configured E N) (name : Name) (rules : List Rule) where
    -- whether a filter that was read matches a test
    abbrev pub read_matches : E → Test → E → Bool
    read_matches e asked default = matches (f e) asked (f default)

    -- what is reported of the rules of a chain
    reasons_meant : (names chain : List Name)
        → AreReasons layers names read_meets read_matches platforms test s (profile_of c name chain) rules
        → AreReasons layers names meets matches platforms test s (profile_of (configured_meaning f g c) name chain) rules
    reasons_meant names chain is =
        let profile = profile_of c name chain in
        let written = rules_for s test.mode profile.overrides profile.script_rules in
        let meant = profile_of (configured_meaning f g c) name chain in
        let default = (profile_on read_meets platforms profile).default_filter.filter in
        let query : M → QueryContext M =
        λ d. record {
          platform = (found_view test).test.binary.platform;
          matches = λ m. matches m (found_view test).test d;
        } in
        record {
          before = is.before;
          fallback = is.fallback;
          are = is.are;
          rules_reported =
              subst (λ rs. AreRulesReported layers meets platforms
              (query (profile_on meets platforms meant).default_filter.filter) rs is.before)
              (rules_meaning s test.mode profile.overrides profile.script_rules
              ∙ (λ i. rules_for s test.mode (overrides_meaning f g c.config.layers (with_default chain) i)
              (script_rules_meaning f g c.config.layers (with_default chain) i)))
              (subst (λ d. AreRulesReported layers meets platforms (query d) (map (rule_meaning f g (λ w. w)) written) is.before)
              (ap (λ p. p.default_filter.filter) (profile_means f g meets platforms c name chain))
              (rules_meant (query (f default)) layers written is.before is.rules_reported));
          fallback_reported = is.fallback_reported;
          fallback_value = is.fallback_value;
          fallback_origins = is.fallback_origins;
          fallback_conditions = is.fallback_conditions;
          as_written = is.as_written;
        }

    -- what is reported of the rules of a profile, by what texts mean
    pub reasons_of_texts : (texts : ConfigModel M K) → config_meaning f g c.config ≡ texts
        → AreReasonsIn layers read_meets read_matches platforms c name test s rules
        → AreReasonsIn layers meets matches platforms (with_config c texts) name test s rules
    reasons_of_texts texts same is =
        let chain = is.is_profile.chain in
        record {
          profile = profile_of (with_config c texts) name chain;
          is_profile = record {
            chain = chain;
            is_chain = subst (λ config. IsChain (parents_in (config_parents config)) name chain) same
                is.is_profile.is_chain;
            is_profile = refl;
          };
          chain = is.chain;
          is_chain = subst (λ config. IsChainAndDefault (parents_in (config_parents config)) name is.chain) same is.is_chain;
          reasons = subst (λ config. AreReasons layers is.chain meets matches platforms test s
              (profile_of (with_config c config) name chain) rules) same
              (reasons_meant is.chain chain
              (subst (λ p. AreReasons layers is.chain read_meets read_matches platforms test s p rules)
              is.is_profile.is_profile is.reasons));
        }
