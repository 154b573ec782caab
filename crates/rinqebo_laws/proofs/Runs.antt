-- The rules of why a test runs agree with the row of whether it does.
use Rattle.std.proofs.Common.{◌≡◌, ◌≢◌, inl, inr, ◌∙◌, ◌&&◌, ◌||◌, not, ℕ, zero, suc, Bool, true, false, cond, List, [], ◌∷◌, ◌++◌, Option, None, Some, codes, filter, find, map, option_map, slice_get, zip, refl, sym, ap, subst}
use Rattle.std.specs.List.{AllByRecursion, AllZip, list_any}
use Rattle.nextest_engines.specs.declared.queries.BuildPlatform.TheVariants.{Target}
use Rattle.nextest_engines.specs.declared.queries.BuildPlatforms.{BuildPlatforms}
use Rattle.nextest_rules.specs.Rules.{Compiled, OverrideUse}
use Rattle.nextest_settings.specs.Chains.{first_of}
use Rattle.nextest_settings.specs.Platforms.{platforms_hold, rule_on}
use Rattle.nextest_tables.specs.Written.{Name}
use Rattle.rinqebo_request.specs.declared.files.layers.Layer.{Layer}
use Rattle.rinqebo_laws.proofs.Lists.{left_of, pair_at}
use Rattle.rinqebo_laws.proofs.Origins.{rule_part}
use Rattle.rinqebo_laws.proofs.Ranges.{AreFiles, profile_alike}
use Rattle.rinqebo_laws.proofs.Why.{alone, before_or_last, decides_told, not_fallback}
use Rattle.rinqebo_laws.specs.Reasons.{DecidesAt, HaveOneResult, NoneDecides, origins_of}
use Rattle.rinqebo_laws.specs.Runs.{IsByChain, IsByFilter}
use Rattle.rinqebo_report.specs.declared.report.Rule.{Rule}
use Rattle.rinqebo_report.specs.declared.report.SettingRow.{SettingRow}
use Rattle.rinqebo_report.specs.declared.report.Verdict.TheVariants as told
use Rattle.rinqebo_rules.proofs.FilterChoice.{choice, first_decides}
use Rattle.rinqebo_rules.specs.FilterRules.{FilterRule, filter_facts, filter_rule_on, filter_rules, has_default}
use Rattle.rinqebo_origins.specs.KnownOrigins.{AreOriginsAt}
use Rattle.rinqebo_origins.specs.Origins.{IsOriginOf, key_steps}
use Rattle.rinqebo_origins.specs.ProfileOrigins.{AreProfileOrigins}
use Rattle.rinqebo_origins.specs.Reported.{value_view}
use Rattle.rinqebo_origins.specs.RulePlaces.{Place, id_place}
use Rattle.rinqebo_rules.specs.Runs.{IsRunsRow, filtering_id, runs_if}
use Rattle.rinqebo_rules.specs.VerdictsBy.{decides_by, verdict_by, verdicts_by}
use Rattle.rinqebo_rules.specs.declared.verdict.RuleFacts.{RuleFacts}
use Rattle.rinqebo_rules.specs.declared.verdict.RuleVerdict.{RuleVerdict}
use Rattle.rinqebo_rules.specs.declared.verdict.RuleVerdict.TheVariants.{PlatformNo, FilterNo, SetsNothing, DecidedBefore, Decides}
use Rattle.rinqebo_results.specs.Reasons.{page_verdict}
use Rattle.rinqebo_results.specs.RunsReasons.{AreFilterRulesReported, IsFilterRuleReported, default_value, filter_verdicts, is_decision}

-- ---- at most one decides

never_after : (facts : List RuleFacts) (n : ℕ) → slice_get (verdicts_by true facts) n ≡ Some Decides → ⊥
never_after [] n is = absurd cc
never_after (f ∷ facts) zero is =
    let verdict : verdict_by f.is_on f.holds f.writes true ≡ Decides = cc in
    by_parts f.is_on f.holds f.writes verdict where
      by_parts : (a b c : Bool) → verdict_by a b c true ≡ Decides → ⊥
      by_parts false b c e = absurd cc
      by_parts true false c e = absurd cc
      by_parts true true false e = absurd cc
      by_parts true true true e = absurd cc
never_after (f ∷ facts) (suc n) is = never_after facts n is

then_decided : (a b c d : Bool) → verdict_by a b c d ≡ Decides → (d || (b && c)) ≡ true
then_decided false b c d e = absurd cc
then_decided true false c d e = absurd cc
then_decided true true false d e = absurd cc
then_decided true true true true e = absurd cc
then_decided true true true false e = refl

none_later : (f : RuleFacts) (facts : List RuleFacts) (d : Bool) (n : ℕ)
    → verdict_by f.is_on f.holds f.writes d ≡ Decides
    → slice_get (verdicts_by (d || decides_by f) facts) n ≡ Some Decides → ⊥
none_later f facts d n first later =
    never_after facts n (subst (λ b. slice_get (verdicts_by b facts) n ≡ Some Decides)
    (then_decided f.is_on f.holds f.writes d first) later)

one_by_facts : (facts : List RuleFacts) (d : Bool) (n m : ℕ) → slice_get (verdicts_by d facts) n ≡ Some Decides
    → slice_get (verdicts_by d facts) m ≡ Some Decides → n ≡ m
one_by_facts [] d n m one other = absurd cc
one_by_facts (f ∷ facts) d zero zero one other = refl
one_by_facts (f ∷ facts) d zero (suc m) one other =
    let first : verdict_by f.is_on f.holds f.writes d ≡ Decides = cc in absurd (none_later f facts d m first other)
one_by_facts (f ∷ facts) d (suc n) zero one other =
    let first : verdict_by f.is_on f.holds f.writes d ≡ Decides = cc in absurd (none_later f facts d n first one)
one_by_facts (f ∷ facts) d (suc n) (suc m) one other = ap suc (one_by_facts facts (d || decides_by f) n m one other)

-- ---- none decides

undecided : (v : RuleVerdict) → (page_verdict v ≡ told.Decides → ⊥) → is_decision v ≡ false
undecided PlatformNo never = refl
undecided FilterNo never = refl
undecided SetsNothing never = refl
undecided DecidedBefore never = refl
undecided Decides never = absurd (never refl)

neither : (a b : Bool) → a ≡ false → b ≡ false → (a || b) ≡ false
neither true b one other = absurd cc
neither false b one other = other

by_holds : (holds : Bool) (rule : FilterRule) (rules : List FilterRule) → rule.facts ≡ filter_facts holds
    → list_any is_decision (verdicts_by false (map (λ rule. rule.facts) (rule ∷ rules))) ≡ false
    → (list_any is_decision (verdicts_by false (map (λ rule. rule.facts) rules)) ≡ false → find (λ rule. decides_by rule.facts) rules ≡ None)
    → find (λ rule. decides_by rule.facts) (rule ∷ rules) ≡ None
by_holds true rule rules is none rest =
    let all : (is_decision (verdict_by true true true false)
    || list_any is_decision (verdicts_by true (map (λ rule. rule.facts) rules))) ≡ false =
    subst (λ (f : RuleFacts). (is_decision (verdict_by f.is_on f.holds f.writes false)
    || list_any is_decision (verdicts_by (false || decides_by f) (map (λ rule. rule.facts) rules))) ≡ false) is none in
    absurd cc
by_holds false rule rules is none rest =
    let all : list_any is_decision (verdicts_by false (map (λ rule. rule.facts) rules)) ≡ false =
    subst (λ (f : RuleFacts). (is_decision (verdict_by f.is_on f.holds f.writes false)
    || list_any is_decision (verdicts_by (false || decides_by f) (map (λ rule. rule.facts) rules))) ≡ false) is none in
    ap (λ (f : RuleFacts). cond (decides_by f) (Some rule) (find (λ rule. decides_by rule.facts) rules)) is ∙ rest all

module _ {M K P : Type 0} (meets : K → P → Option Bool) (platforms : BuildPlatforms P) where
  abbrev found : List (Compiled M K (OverrideUse M)) → List FilterRule
  found rules = map (filter_rule_on meets platforms) rules

  abbrev said : List (Compiled M K (OverrideUse M)) → List RuleVerdict
  said rules = verdicts_by false (map (λ rule. rule.facts) (found rules))

  none_found : (rules : List (Compiled M K (OverrideUse M))) → list_any is_decision (said rules) ≡ false
      → find (λ rule. decides_by rule.facts) (found rules) ≡ None
  none_found [] none = refl
  none_found (rule ∷ rules) none =
      by_holds (platforms_hold meets platforms Target rule) (filter_rule_on meets platforms rule) (found rules) refl none
      (none_found rules)

-- ---- rules that are reported

module _ {M K P : Type 0} (layers : List Layer) (meets : K → P → Option Bool) (platforms : BuildPlatforms P)
    (overrides : List (Compiled M K (OverrideUse M))) (matches : Bool) (front : List Rule)
    (all : AreFilterRulesReported layers matches (filter_rules meets platforms overrides)
    (filter_verdicts (filter_rules meets platforms overrides)) front) where
  abbrev filters : List FilterRule
  filters = filter_rules meets platforms overrides

  abbrev Tells : FilterRule × RuleVerdict → Rule → Type 0
  Tells p rule = IsFilterRuleReported layers matches p.0 p.1 rule

  pub record HasFilter (n : ℕ) (rule : Rule) : Type 0 where
    pub written : FilterRule
    pub verdict : RuleVerdict
    pub there : slice_get filters n ≡ Some written
    pub given : slice_get (filter_verdicts filters) n ≡ Some verdict
    pub is : IsFilterRuleReported layers matches written verdict rule

  filter_at : (n : ℕ) (rule : Rule) → slice_get front n ≡ Some rule → HasFilter n rule
  filter_at n rule there =
      let it = left_of Tells (zip filters (filter_verdicts filters)) front n rule all there in
      let p = it.0 in
      let pair = pair_at filters (filter_verdicts filters) n p it.1 in
      record { written = p.0; verdict = p.1; there = pair.0; given = pair.1; is = it.2 }

  decides_there : (n : ℕ) (rule : Rule) → slice_get front n ≡ Some rule → rule.verdict ≡ told.Decides
      → slice_get (filter_verdicts filters) n ≡ Some Decides
  decides_there n rule there decides =
      let it = filter_at n rule there in
      it.given ∙ ap Some (decides_told it.verdict (sym it.is.verdict_reported ∙ decides))

  pub no_fallback_there : (n : ℕ) (rule : Rule) → slice_get front n ≡ Some rule → rule.verdict ≡ told.Fallback → ⊥
  no_fallback_there n rule there fallback =
      let it = filter_at n rule there in
      not_fallback it.verdict (sym it.is.verdict_reported ∙ fallback)

  no_filter_fallbacks : (ps : List (FilterRule × RuleVerdict)) (rs : List Rule) → AllZip Tells ps rs
      → AllByRecursion (λ rule. rule.verdict ≢ told.Fallback) rs
  no_filter_fallbacks [] [] each = tt
  no_filter_fallbacks [] (r ∷ rs) each = absurd each
  no_filter_fallbacks (p ∷ ps) [] each = absurd each
  no_filter_fallbacks (p ∷ ps) (r ∷ rs) each =
      ((λ is. not_fallback p.1 (sym each.0.verdict_reported ∙ is)), no_filter_fallbacks ps rs each.1)

  none_said : (d : Bool) (fs : List FilterRule) (rs : List Rule)
      → AllZip Tells (zip fs (verdicts_by d (map (λ rule. rule.facts) fs))) rs
      → AllByRecursion (λ rule. rule.verdict ≢ told.Decides) rs
      → list_any is_decision (verdicts_by d (map (λ rule. rule.facts) fs)) ≡ false
  none_said d [] rs each none = refl
  none_said d (f ∷ fs) [] each none = absurd each
  none_said d (f ∷ fs) (r ∷ rs) each none =
      let v = verdict_by f.facts.is_on f.facts.holds f.facts.writes d in
      neither (is_decision v)
      (list_any is_decision (verdicts_by (d || decides_by f.facts) (map (λ rule. rule.facts) fs)))
      (undecided v (λ decides. none.0 (each.0.verdict_reported ∙ decides)))
      (none_said (d || decides_by f.facts) fs rs each.1 none.1)

  pub no_decision : NoneDecides front → list_any is_decision (filter_verdicts filters) ≡ false
  no_decision none = none_said false filters front all none

  -- the place of the override whose default filter counts
  abbrev counted : Option Place
  counted = option_map id_place (first_of filtering_id (map (rule_on meets platforms) overrides))

  none_counted : NoneDecides front → counted ≡ None
  none_counted none =
      sym (choice meets platforms overrides)
      ∙ ap (option_map (λ (rule : FilterRule). rule.place))
      (none_found meets platforms (filter has_default overrides) (no_decision none))

  module _ (files : AreFiles layers)
      (chain : List Name) (is_ignored : Bool) (row : SettingRow)
      (is : IsRunsRow (record { layers = layers; chain = chain }) counted (runs_if matches is_ignored) row) where
    pub by_filter : (n : ℕ) (rule : Rule) → slice_get front n ≡ Some rule → rule.verdict ≡ told.Decides
        → IsByFilter layers is_ignored rule row
    by_filter n rule there decides =
        let steps = key_steps None (codes "default-filter") in
        let it = filter_at n rule there in
        let said = decides_there n rule there decides in
        let counts : counted ≡ Some it.written.place =
        sym (choice meets platforms overrides)
        ∙ ap (option_map (λ (rule : FilterRule). rule.place)) (first_decides filters n said ∙ it.there) in
        let here : AreOriginsAt (record { layers = layers; chain = chain }) (Some it.written.place) None
        (codes "default-filter") row.origins.items =
        subst (λ place. AreOriginsAt (record { layers = layers; chain = chain }) place None (codes "default-filter")
        row.origins.items) counts is.origins_reported in
        let single = alone (λ place. IsOriginOf layers place steps) it.written.place row.origins.items here in
        let verdict : it.verdict ≡ Decides = decides_told it.verdict (sym it.is.verdict_reported ∙ decides) in
        record {
          says = record {
            matches = matches;
            rule_says = it.is.value ∙ ap (λ v. default_value (is_decision v) matches) verdict;
            row_says = is.value_reported;
          };
          origin = single.0;
          alone = single.1;
          within = record {
            place = it.written.place;
            rule_is = it.is.origin;
            origin_is = single.2;
            same_part = rule_part layers files.one it.written.place steps [] single.0 rule.origin single.2 it.is.origin;
          };
        }

    pub chain_origins : NoneDecides front
        → AreProfileOrigins layers chain None (codes "default-filter") row.origins.items
    chain_origins none =
        subst (λ place. AreOriginsAt (record { layers = layers; chain = chain }) place None (codes "default-filter")
        row.origins.items) (none_counted none) is.origins_reported

    pub by_chain : (fallback : Rule) → option_map value_view fallback.value
        ≡ default_value (not (list_any is_decision (filter_verdicts filters))) matches
        → AreProfileOrigins layers chain None (codes "default-filter") (origins_of fallback) → NoneDecides front
        → IsByChain is_ignored fallback row
    by_chain fallback value origins none = record {
      says = record {
        matches = matches;
        rule_says = value ∙ ap (λ b. default_value (not b) matches) (no_decision none);
        row_says = is.value_reported;
      };
      origins = profile_alike layers files chain None (codes "default-filter") (origins_of fallback) row.origins.items origins
          (chain_origins none);
    }

  module _ (fallback : Rule) (is_fallback : fallback.verdict ≡ told.Fallback) where
    last_decides : (rule : Rule) → fallback ≡ rule → rule.verdict ≡ told.Decides → ⊥
    last_decides rule same decides =
        let verdict : fallback.verdict ≡ told.Decides = ap (λ (r : Rule). r.verdict) same ∙ decides in
        absurd cc

    decides_before : (n : ℕ) → DecidesAt (front ++ fallback ∷ []) n
        → slice_get (filter_verdicts filters) n ≡ Some Decides
    decides_before n it = elim (before_or_last front fallback it.0 n it.1) [
      | inl there ↦ decides_there n it.0 there it.2
      | inr same ↦ absurd (last_decides it.0 same it.2)
    ]

    pub one_filter : (rules : List Rule) → rules ≡ front ++ fallback ∷ [] → HaveOneResult rules
    one_filter rules are = record {
      one = λ n m one other. one_by_facts (map (λ rule. rule.facts) filters) false n m
          (decides_before n (subst (λ rs. DecidesAt rs n) are one))
          (decides_before m (subst (λ rs. DecidesAt rs m) are other));
      front = front;
      fallback = fallback;
      are = are;
      is_fallback = is_fallback;
      no_other = no_filter_fallbacks (zip filters (filter_verdicts filters)) front all;
    }
