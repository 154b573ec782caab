-- The rules of a test in the profile of a name, and what is reported of the test, agree.
use Rattle.std.proofs.Common.{◌≡◌, inl, inr, ◌∙◌, ℕ, Bool, List, [], ◌∷◌, ◌++◌, Contains, None, Option, Some, codes, slice_get, string_bytes, sym, ap, subst}
use Rattle.std.proofs.lemmas.List.Elements.{All-contains}
use Rattle.std.specs.List.{AllByRecursion}
use Rattle.nextest_elements.specs.declared.run_mode.NextestRunMode.{NextestRunMode}
use Rattle.nextest_engines.specs.Engines.{Test}
use Rattle.nextest_engines.specs.declared.queries.BuildPlatforms.{BuildPlatforms}
use Rattle.nextest_load.specs.Config.{ConfigModel, ScriptTables}
use Rattle.nextest_settings.specs.Profile.{EarlyModel, EvaluatableModel}
use Rattle.nextest_settings.specs.Queries.{fallback_origin, query_in, setting_origin, setting_value}
use Rattle.nextest_elements.specs.declared.setting.Setting.{Setting}
use Rattle.nextest_tables.specs.Written.{Name}
use Rattle.rinqebo_request.specs.declared.files.layers.Layer.{Layer}
use Rattle.rinqebo_laws.proofs.Keys.{one_key}
use Rattle.rinqebo_laws.proofs.Listed.{listed_if_passes, passes_if_listed, some_or_none}
use Rattle.rinqebo_laws.proofs.Lists.{place_of}
use Rattle.rinqebo_laws.proofs.Profiles.{Reports, early, on}
use Rattle.rinqebo_laws.proofs.Ranges.{AreFiles}
use Rattle.rinqebo_laws.proofs.Rows.{row_of}
use Rattle.rinqebo_laws.proofs.Runs.{by_chain, by_filter, chain_origins, no_fallback_there}
use Rattle.rinqebo_laws.proofs.Why.{all_before, before_or_last, by_fallback, by_rule, fallback_origins, never_fallback, no_rule_of, rule_of}
use Rattle.rinqebo_laws.specs.Reasons.{HaveKeyIfDecided, IsByFallback, IsByRule, NoneDecides}
use Rattle.rinqebo_laws.specs.Runs.{IsByChain, IsByFilter}
use Rattle.rinqebo_load.specs.FoundTests.{found_view}
use Rattle.rinqebo_load.specs.declared.found_test.FoundTest.{FoundTest}
use Rattle.rinqebo_report.specs.declared.report.Rule.{Rule}
use Rattle.rinqebo_report.specs.declared.report.SettingRow.{SettingRow}
use Rattle.rinqebo_report.specs.declared.report.TestRows.{TestRows}
use Rattle.rinqebo_report.specs.declared.report.Verdict.TheVariants as verdicts
use Rattle.rinqebo_keys.specs.Keys.{key_name, key_table, key_text}
use Rattle.rinqebo_request.specs.declared.request.RequestedSettings.{RequestedSettings}
use Rattle.rinqebo_request.specs.declared.request.RequestedSettings.TheVariants as requests
use Rattle.rinqebo_origins.specs.Origins.{key_steps}
use Rattle.rinqebo_origins.specs.ProfileOrigins.{AreProfileOrigins}
use Rattle.rinqebo_rules.specs.SettingRules.{rules_for}
use Rattle.rinqebo_origins.specs.Settings.{IsSettingReported, is_by_rule, reported_settings}
use Rattle.rinqebo_origins.specs.TestOrigins.{AreOriginsBy, wrapping_id}
use Rattle.rinqebo_results.specs.Reasons.{IsRuleAsWritten}
use Rattle.rinqebo_results.specs.ReportsReasons.{AreReasons}
use Rattle.rinqebo_results.specs.RunsReasons.{AreRunsReasons, is_selected_on}

-- the fallback does not decide
not_both : (fallback rule : Rule) → fallback ≡ rule → fallback.verdict ≡ verdicts.Fallback → rule.verdict ≡ verdicts.Decides → ⊥
not_both fallback rule same falls decides =
    let verdict : fallback.verdict ≡ verdicts.Decides = ap (λ (r : Rule). r.verdict) same ∙ decides in
    absurd cc

-- a row of a setting agrees with the rules, where origins are looked up in these layers and this chain
pub record RowAgrees (layers : List Layer) (names : List Name) (s : Setting) (mode : NextestRunMode) (rules : List Rule)
    (row : SettingRow) : Type 0 where
  pub decided : (rule : Rule) → Contains rules rule → rule.verdict ≡ verdicts.Decides
      → IsByRule layers (key_steps (key_table s mode) (key_name s)) rule row
  pub undecided : NoneDecides rules → (rule : Rule) → Contains rules rule → rule.verdict ≡ verdicts.Fallback
      → IsByFallback s rule row
  pub origins : NoneDecides rules → AreOriginsBy (record { layers = layers; chain = names }) None (key_table s mode)
      (key_name s) (fallback_origin s) row.origins.items

-- the row of whether a test runs agrees with the rules
pub record RunsAgree (layers : List Layer) (names : List Name) (is_ignored : Bool) (rules : List Rule) (row : SettingRow)
    : Type 0 where
  pub decided : (rule : Rule) → Contains rules rule → rule.verdict ≡ verdicts.Decides
      → IsByFilter layers is_ignored rule row
  pub undecided : NoneDecides rules → (rule : Rule) → Contains rules rule → rule.verdict ≡ verdicts.Fallback
      → IsByChain is_ignored rule row
  pub origins : NoneDecides rules → AreProfileOrigins layers names None (codes "default-filter") row.origins.items

module _ {M K P : Type 0} (meets : K → P → Option Bool) (matches : M → Test → M → Bool) (platforms : BuildPlatforms P)
    (root : List ℕ) (config : ConfigModel M K) (layers : List Layer) (profile : Name) (test : FoundTest)
    (scripts others : ScriptTables) (chain names : List Name) (rules : List Rule) (rows : TestRows) where
  abbrev Told : RequestedSettings → Type 0
  Told asked = Reports meets matches platforms root config layers profile others chain names (found_view test) test.mode
      asked rows

  abbrev here : EarlyModel M K
  here = early meets matches platforms root config layers profile others chain

  abbrev on_build : EvaluatableModel M
  on_build = on meets matches platforms root config layers profile others chain

  -- the profile in which the rules are reported
  abbrev Reasons : Setting → Type 0
  Reasons s = AreReasons layers names meets matches platforms test s
      (early meets matches platforms root config layers profile scripts chain) rules

  none_before : (front : List Rule) (fallback : Rule) → rules ≡ front ++ fallback ∷ [] → NoneDecides rules
      → NoneDecides front
  none_before front fallback are none =
      all_before (λ (rule : Rule). rule.verdict ≡ verdicts.Decides → ⊥) front (fallback ∷ [])
      (subst (AllByRecursion (λ (rule : Rule). rule.verdict ≡ verdicts.Decides → ⊥)) are none)

  module _ (files : AreFiles layers)
      (asked : RequestedSettings) where
    pub row_agrees : (s : Setting) (row : SettingRow) → Reasons s → Told asked → (key : List ℕ)
        → key ≡ key_text s test.mode → Contains rows.settings.items row → string_bytes row.key ≡ key
        → RowAgrees layers names s test.mode rules row
    row_agrees s row reasons reported key keyed has same =
        let p = here in
        let q = on_build in
        let mode = test.mode in
        let query = query_in matches q (found_view test).test in
        let origin = setting_origin query mode q in
        let is = row_of layers files names (wrapping_id query q) (setting_value query mode q) origin mode s key
        (reported_settings asked origin) rows.settings.items row reported.settings_reported has same keyed in
        let front = reasons.before in
        let fallback = reasons.fallback in
        let all = reasons.rules_reported in
        record {
          decided = λ rule in_rules decides.
              (let place = place_of rules rule in_rules in
              elim (before_or_last front fallback rule place.0
              (subst (λ rs. slice_get rs place.0 ≡ Some rule) reasons.are place.1)) [
                | inl there ↦ by_rule layers files names meets platforms query mode p.overrides p.script_rules p.facts.fields s
                    front all row is place.0 rule there decides
                    (All-contains (IsRuleAsWritten layers (key_steps (key_table s mode) (key_name s))) rules rule
                    reasons.as_written in_rules)
                | inr last ↦ absurd (not_both fallback rule last reasons.fallback_reported decides)
              ]);
          undecided = λ none rule in_rules falls.
              (let place = place_of rules rule in_rules in
              elim (before_or_last front fallback rule place.0
              (subst (λ rs. slice_get rs place.0 ≡ Some rule) reasons.are place.1)) [
                | inl there ↦ absurd (never_fallback layers meets platforms query
                    (rules_for s mode p.overrides p.script_rules) front all place.0 rule there falls)
                | inr last ↦ subst (λ (r : Rule). IsByFallback s r row) last
                    (by_fallback layers files names meets platforms query mode p.overrides p.script_rules p.facts.fields s front
                    all row is fallback reasons.fallback_value reasons.fallback_origins
                    (subst (λ (r : Rule). IsRuleAsWritten layers (key_steps (key_table s mode) (key_name s)) r)
                    (sym last)
                    (All-contains (IsRuleAsWritten layers (key_steps (key_table s mode) (key_name s))) rules rule
                    reasons.as_written in_rules))
                    (none_before front fallback reasons.are none))
              ]);
          origins = λ none. fallback_origins layers files names meets platforms query mode p.overrides p.script_rules
              p.facts.fields s front all row is (none_before front fallback reasons.are none);
        }

    pub runs_agree : AreRunsReasons layers names meets matches platforms test
        (early meets matches platforms root config layers profile scripts chain) rules
        → Told asked → RunsAgree layers names test.ignored rules rows.runs
    runs_agree reasons reported =
        let p = here in
        let selected = is_selected_on matches on_build (found_view test).test in
        let front = reasons.before in
        let fallback = reasons.fallback in
        let all = reasons.rules_reported in
        let is = reported.run_reported in
        record {
          decided = λ rule in_rules decides.
              (let place = place_of rules rule in_rules in
              elim (before_or_last front fallback rule place.0
              (subst (λ rs. slice_get rs place.0 ≡ Some rule) reasons.are place.1)) [
                | inl there ↦ by_filter layers meets platforms p.overrides selected front all files names test.ignored rows.runs
                    is place.0 rule there decides
                | inr last ↦ absurd (not_both fallback rule last reasons.fallback_reported decides)
              ]);
          undecided = λ none rule in_rules falls.
              (let place = place_of rules rule in_rules in
              elim (before_or_last front fallback rule place.0
              (subst (λ rs. slice_get rs place.0 ≡ Some rule) reasons.are place.1)) [
                | inl there ↦ absurd (no_fallback_there layers meets platforms p.overrides selected front all place.0 rule
                    there falls)
                | inr last ↦ subst (λ (r : Rule). IsByChain test.ignored r rows.runs) last
                    (by_chain layers meets platforms p.overrides selected front all files names test.ignored rows.runs is
                    fallback reasons.fallback_value reasons.fallback_origins
                    (none_before front fallback reasons.are none))
              ]);
          origins = λ none. chain_origins layers meets platforms p.overrides selected front all files names test.ignored
              rows.runs is (none_before front fallback reasons.are none);
        }

  -- a setting is listed exactly where some rule decides
  pub listed_if_decided : (s : Setting) → Reasons s → Told requests.Decided → (key : List ℕ) → key ≡ key_text s test.mode
      → HaveKeyIfDecided rules rows.settings.items key
  listed_if_decided s reasons reported key keyed =
      let p = here in
      let q = on_build in
      let mode = test.mode in
      let query = query_in matches q (found_view test).test in
      let origin = setting_origin query mode q in
      let Is : Setting → SettingRow → Type 0 =
      IsSettingReported (record { layers = layers; chain = names }) (wrapping_id query q) (setting_value query mode q)
      origin mode in
      let keys : Setting → List ℕ = λ t. key_text t mode in
      let passes : Setting → Bool = λ t. is_by_rule (origin t) in
      let front = reasons.before in
      let fallback = reasons.fallback in
      let all = reasons.rules_reported in (
        (λ has. (let ruled = passes_if_listed Is keys (λ t row is. is.key) (λ t u same. one_key t u mode same) passes
            rows.settings.items reported.settings_reported s key keyed has in
            elim (some_or_none rules) [
              | inl some ↦ some
              | inr none ↦ absurd (no_rule_of layers meets platforms query mode p.overrides p.script_rules p.facts.fields s front all
                  (none_before front fallback reasons.are none) ruled)
            ])),
        (λ some. (let it = some.1 in
            elim (before_or_last front fallback it.0 some.0
            (subst (λ rs. slice_get rs some.0 ≡ Some it.0) reasons.are it.1)) [
              | inl there ↦ listed_if_passes Is keys (λ t row is. is.key) (λ t u same. one_key t u mode same) passes
                  rows.settings.items reported.settings_reported s key keyed
                  (rule_of layers meets platforms query mode p.overrides p.script_rules p.facts.fields s front all some.0 it.0 there
                  it.2)
              | inr last ↦ absurd (not_both fallback it.0 last reasons.fallback_reported it.2)
            ])),
      )
