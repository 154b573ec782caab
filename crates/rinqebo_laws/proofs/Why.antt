-- The rules of a setting agree with the row that is reported of it.
use Rattle.std.proofs.Common.{◌≡◌, ◌≢◌, ◌⊎◌, inl, inr, ◌∙◌, ℕ, zero, suc, Bool, true, List, [], ◌∷◌, ◌++◌, Option, None, Some, IfSome, is_some, map, option_map, slice_get, zip, refl, sym, ap, subst}
use Rattle.std.proofs.lemmas.Option.{slice_get-map}
use Rattle.std.specs.List.{AllByRecursion, AllZip}
use Rattle.nextest_elements.specs.declared.run_mode.NextestRunMode.{NextestRunMode}
use Rattle.nextest_engines.specs.declared.queries.BuildPlatforms.{BuildPlatforms}
use Rattle.nextest_rules.specs.Rules.{Compiled, OverrideUse, ScriptRuleUse}
use Rattle.nextest_settings.specs.Deciding.{QueryContext}
use Rattle.nextest_settings.specs.Platforms.{rule_on}
use Rattle.nextest_settings.specs.Queries.{fallback_origin}
use Rattle.nextest_settings.specs.Settings.{fallback_of}
use Rattle.nextest_elements.specs.declared.setting.Setting.{Setting}
use Rattle.nextest_tables.specs.Written.{Name, WrittenFields}
use Rattle.rinqebo_request.specs.declared.files.layers.Layer.{Layer}
use Rattle.rinqebo_laws.proofs.Deciding.{about, any_wrapping, given, has_fallback, has_rule, mapped_back, not_ruled, one_decides, rule_with, some_mapped, source, wrapping}
use Rattle.rinqebo_laws.proofs.Fallbacks.{fallback_agrees, fallback_node}
use Rattle.rinqebo_laws.proofs.Lists.{all_contains, contains_at, left_of, pair_at, pair_from, right_of}
use Rattle.rinqebo_laws.proofs.Origins.{rule_part}
use Rattle.rinqebo_laws.proofs.Ranges.{AreFiles}
use Rattle.rinqebo_laws.proofs.Texts.{same_node, texts_alike}
use Rattle.rinqebo_laws.specs.Reasons.{DecidesAt, HasOriginsOf, HaveOneResult, IsByFallback, IsByRule, NoneDecides, origins_of}
use Rattle.rinqebo_report.specs.declared.report.Rule.{Rule}
use Rattle.rinqebo_report.specs.declared.report.SettingRow.{SettingRow}
use Rattle.rinqebo_report.specs.declared.report.Verdict.TheVariants as told
use Rattle.rinqebo_keys.specs.Keys.{key_name, key_table}
use Rattle.rinqebo_origins.specs.AsWritten.{IsValueAsWritten, node_alone, origin_node}
use Rattle.rinqebo_origins.specs.Origins.{IsOriginOf, key_steps}
use Rattle.rinqebo_origins.specs.ProfileOrigins.{AreProfileOrigins}
use Rattle.rinqebo_origins.specs.Reported.{reported_of, value_view}
use Rattle.rinqebo_rules.specs.RuleAnswers.{answers_by}
use Rattle.rinqebo_rules.specs.SettingRules.{RuleFor, writes_it}
use Rattle.rinqebo_origins.specs.Settings.{IsSettingReported, is_by_rule}
use Rattle.rinqebo_origins.specs.TestOrigins.{AreOriginsBy}
use Rattle.rinqebo_rules.specs.Verdicts.{verdicts_of}
use Rattle.rinqebo_rules.specs.declared.verdict.RuleVerdict.{RuleVerdict}
use Rattle.rinqebo_rules.specs.declared.verdict.RuleVerdict.TheVariants.{PlatformNo, FilterNo, SetsNothing, DecidedBefore, Decides}
use Rattle.rinqebo_results.specs.Reasons.{AreRulesReported, IsRuleAsWritten, IsRuleReported, page_verdict}

-- ---- verdicts as a report shows them

pub decides_told : (v : RuleVerdict) → page_verdict v ≡ told.Decides → v ≡ Decides
decides_told PlatformNo is = absurd cc
decides_told FilterNo is = absurd cc
decides_told SetsNothing is = absurd cc
decides_told DecidedBefore is = absurd cc
decides_told Decides is = refl

pub not_fallback : (v : RuleVerdict) → page_verdict v ≡ told.Fallback → ⊥
not_fallback PlatformNo is = absurd cc
not_fallback FilterNo is = absurd cc
not_fallback SetsNothing is = absurd cc
not_fallback DecidedBefore is = absurd cc
not_fallback Decides is = absurd cc

-- ---- lists

-- what is in a list with one element more is an element before it, or this one
pub before_or_last : {X : Type 0} (xs : List X) (x y : X) (n : ℕ) → slice_get (xs ++ x ∷ []) n ≡ Some y
    → (slice_get xs n ≡ Some y) ⊎ (x ≡ y)
before_or_last [] x y zero is = let same : x ≡ y = cc in inr same
before_or_last [] x y (suc n) is = absurd cc
before_or_last (z ∷ xs) x y zero is = inl is
before_or_last (z ∷ xs) x y (suc n) is = before_or_last xs x y n is

pub all_before : {X : Type 0} (P : X → Type 0) (xs ys : List X) → AllByRecursion P (xs ++ ys) → AllByRecursion P xs
all_before P [] ys all = tt
all_before P (x ∷ xs) ys all = (all.0, all_before P xs ys all.1)

pub alone : {A B : Type 0} (R : A → B → Type 0) (x : A) (ys : List B) → AllZip R (x ∷ []) ys
    → (y : B) × (ys ≡ y ∷ []) × R x y
alone R x [] all = absurd all
alone R x (y ∷ []) all = (y, refl, all.0)
alone R x (y ∷ (z ∷ ys)) all = absurd all.1

-- ---- rules that are reported with their verdicts

module _ {M K P : Type 0} (layers : List Layer) (meets : K → P → Option Bool) (platforms : BuildPlatforms P)
    (query : QueryContext M) (rules : List (RuleFor M K)) (front : List Rule)
    (all : AreRulesReported layers meets platforms query rules front) where
  abbrev given_verdicts : List RuleVerdict
  given_verdicts = verdicts_of query writes_it (map (rule_on meets platforms) rules)

  abbrev Tells : RuleFor M K × RuleVerdict → Rule → Type 0
  Tells p rule = IsRuleReported layers p.0.writes (answers_by meets platforms query p.0) p.1 rule

  -- what a report has at a place
  pub record IsThere (n : ℕ) (rule : Rule) : Type 0 where
    pub written : RuleFor M K
    pub verdict : RuleVerdict
    pub there : slice_get rules n ≡ Some written
    pub given : slice_get given_verdicts n ≡ Some verdict
    pub is : IsRuleReported layers written.writes (answers_by meets platforms query written) verdict rule

  pub rule_at : (n : ℕ) (rule : Rule) → slice_get front n ≡ Some rule → IsThere n rule
  rule_at n rule there =
      let it = left_of Tells (zip rules given_verdicts) front n rule all there in
      let p = it.0 in
      let pair = pair_at rules given_verdicts n p it.1 in
      record { written = p.0; verdict = p.1; there = pair.0; given = pair.1; is = it.2 }

  -- a rule that is reported to decide does
  pub decides_at : (n : ℕ) (rule : Rule) → slice_get front n ≡ Some rule → rule.verdict ≡ told.Decides
      → slice_get given_verdicts n ≡ Some Decides
  decides_at n rule there decides =
      let it = rule_at n rule there in
      it.given ∙ ap Some (decides_told it.verdict (sym it.is.verdict_reported ∙ decides))

  pub never_fallback : (n : ℕ) (rule : Rule) → slice_get front n ≡ Some rule → rule.verdict ≡ told.Fallback → ⊥
  never_fallback n rule there fallback =
      let it = rule_at n rule there in
      not_fallback it.verdict (sym it.is.verdict_reported ∙ fallback)

  no_fallbacks : (ps : List (RuleFor M K × RuleVerdict)) (rs : List Rule) → AllZip Tells ps rs
      → AllByRecursion (λ rule. rule.verdict ≢ told.Fallback) rs
  no_fallbacks [] [] each = tt
  no_fallbacks [] (r ∷ rs) each = absurd each
  no_fallbacks (p ∷ ps) [] each = absurd each
  no_fallbacks (p ∷ ps) (r ∷ rs) each =
      ((λ is. not_fallback p.1 (sym each.0.verdict_reported ∙ is)), no_fallbacks ps rs each.1)

  -- where none is reported to decide, none does
  pub none_given : AllByRecursion (λ rule. rule.verdict ≢ told.Decides) front → (n : ℕ)
      → slice_get given_verdicts n ≢ Some Decides
  none_given none n is =
      let on = rule_with query writes_it (map (rule_on meets platforms) rules) n Decides is in
      let back = mapped_back (rule_on meets platforms) (slice_get rules n) on.0
      (sym (slice_get-map (rule_on meets platforms) rules n) ∙ on.1) in
      let pair = pair_from rules given_verdicts n back.0 Decides back.1 is in
      let it = right_of Tells (zip rules given_verdicts) front n (back.0, Decides) all pair in
      all_contains (λ (rule : Rule). rule.verdict ≢ told.Decides) front it.0 none (contains_at front n it.0 it.1)
      it.2.verdict_reported

  -- the rules and the fallback have one result
  module _ (fallback : Rule) (is_fallback : fallback.verdict ≡ told.Fallback) where
    not_last : (rule : Rule) → fallback ≡ rule → rule.verdict ≡ told.Decides → ⊥
    not_last rule same decides =
        let verdict : fallback.verdict ≡ told.Decides = ap (λ (r : Rule). r.verdict) same ∙ decides in
        absurd cc

    decides_before : (n : ℕ) → DecidesAt (front ++ fallback ∷ []) n → slice_get given_verdicts n ≡ Some Decides
    decides_before n it = elim (before_or_last front fallback it.0 n it.1) [
      | inl there ↦ decides_at n it.0 there it.2
      | inr same ↦ absurd (not_last it.0 same it.2)
    ]

    pub one_result : (all_rules : List Rule) → all_rules ≡ front ++ fallback ∷ [] → HaveOneResult all_rules
    one_result all_rules are = record {
      one = λ n m one other. one_decides query writes_it (map (rule_on meets platforms) rules) n m
          (decides_before n (subst (λ rs. DecidesAt rs n) are one))
          (decides_before m (subst (λ rs. DecidesAt rs m) are other));
      front = front;
      fallback = fallback;
      are = are;
      is_fallback = is_fallback;
      no_other = no_fallbacks (zip rules given_verdicts) front all;
    }

-- ---- what decides a setting

module _ {M K P : Type 0} (layers : List Layer) (meets : K → P → Option Bool) (platforms : BuildPlatforms P)
    (query : QueryContext M) (mode : NextestRunMode) (overrides : List (Compiled M K (OverrideUse M)))
    (scripts : List (Compiled M K ScriptRuleUse)) (fields : List WrittenFields) (s : Setting) (front : List Rule)
    (all : AreRulesReported layers meets platforms query (about meets platforms query mode overrides scripts fields s)
    front) where
  -- a rule decides it
  pub rule_of : (n : ℕ) (rule : Rule) → slice_get front n ≡ Some rule → rule.verdict ≡ told.Decides
      → is_by_rule (source meets platforms query mode overrides scripts fields s) ≡ true
  rule_of n rule there decides =
      let about_it = about meets platforms query mode overrides scripts fields s in
      let it = rule_at layers meets platforms query about_it front all n rule there in
      (has_rule meets platforms query mode overrides scripts fields s n it.written it.there
      (decides_at layers meets platforms query about_it front all n rule there decides)).ruled

  -- no rule does
  pub no_rule_of : NoneDecides front
      → is_by_rule (source meets platforms query mode overrides scripts fields s) ≡ true → ⊥
  no_rule_of none ruled =
      let never = none_given layers meets platforms query (about meets platforms query mode overrides scripts fields s)
      front all none in
      let both = has_fallback meets platforms query mode overrides scripts fields s never in
      let no = ap is_by_rule both.1 ∙ not_ruled s in
      absurd cc

-- ---- the row of a setting

module _ {M K P : Type 0} (layers : List Layer)
    (files : AreFiles layers)
    (chain : List Name) (meets : K → P → Option Bool) (platforms : BuildPlatforms P) (query : QueryContext M)
    (mode : NextestRunMode) (overrides : List (Compiled M K (OverrideUse M))) (scripts : List (Compiled M K ScriptRuleUse))
    (fields : List WrittenFields) (s : Setting) (front : List Rule)
    (all : AreRulesReported layers meets platforms query (about meets platforms query mode overrides scripts fields s) front)
    (row : SettingRow)
    (is : IsSettingReported (record { layers = layers; chain = chain })
    (wrapping meets platforms query mode overrides scripts fields)
    (given meets platforms query mode overrides scripts fields)
    (source meets platforms query mode overrides scripts fields) mode s row) where
  -- what the rule that decides writes
  pub by_rule : (n : ℕ) (rule : Rule) → slice_get front n ≡ Some rule → rule.verdict ≡ told.Decides
      → IsRuleAsWritten layers (key_steps (key_table s mode) (key_name s)) rule
      → IsByRule layers (key_steps (key_table s mode) (key_name s)) rule row
  by_rule n rule there decides written =
      let steps = key_steps (key_table s mode) (key_name s) in
      let it = rule_at layers meets platforms query (about meets platforms query mode overrides scripts fields s) front all
      n rule there in
      let has = has_rule meets platforms query mode overrides scripts fields s n it.written it.there
      (decides_at layers meets platforms query (about meets platforms query mode overrides scripts fields s) front all n
      rule there decides) in
      let found = alone (λ place. IsOriginOf layers place steps) it.written.writes.place row.origins.items
      (has.origins (record { layers = layers; chain = chain }) (key_table s mode) (key_name s) row.origins.items
      is.origins_reported) in
      let part = rule_part layers files.one it.written.writes.place steps [] found.0 rule.origin found.2 it.is.origin in
      let values : option_map value_view rule.value ≡ option_map value_view row.value =
      it.is.value ∙ sym (is.value_reported ∙ has.value) in
      let of_rule : IfSome rule.value (IsValueAsWritten (origin_node layers steps rule.origin)) =
      subst (λ os. IfSome rule.value (IsValueAsWritten (node_alone layers steps (rule.origin ∷ os)))) it.is.others written in
      let of_row : IfSome row.value (IsValueAsWritten (origin_node layers steps found.0)) =
      subst (λ os. IfSome row.value (IsValueAsWritten (node_alone layers steps os))) found.1 is.value_as_written in
      record {
        writes = sym (some_mapped value_view rule.value) ∙ ap is_some it.is.value ∙ has.some;
        value = record {
          value = values;
          texts = texts_alike (origin_node layers steps rule.origin) rule.value row.value values of_rule
              (subst (λ node. IfSome row.value (IsValueAsWritten node)) (same_node layers steps found.0 rule.origin part)
              of_row);
        };
        origin = found.0;
        alone = found.1;
        within = record {
          place = it.written.writes.place;
          rule_is = it.is.origin;
          origin_is = found.2;
          same_part = part;
        };
      }

  pub fallback_origins : NoneDecides front → AreOriginsBy (record { layers = layers; chain = chain }) None
      (key_table s mode) (key_name s) (fallback_origin s) row.origins.items
  fallback_origins none =
      let never = none_given layers meets platforms query (about meets platforms query mode overrides scripts fields s) front
      all none in
      let both = has_fallback meets platforms query mode overrides scripts fields s never in
      let wraps = wrapping meets platforms query mode overrides scripts fields in
      any_wrapping (record { layers = layers; chain = chain }) wraps None (key_table s mode) (key_name s) s row.origins.items
      (subst (λ o. AreOriginsBy (record { layers = layers; chain = chain }) wraps (key_table s mode) (key_name s) o
      row.origins.items) both.1 is.origins_reported)

  -- the fallback if none decides
  pub by_fallback : (fallback : Rule) → option_map value_view fallback.value
      ≡ option_map (reported_of s) (fallback_of fields mode s)
      → AreProfileOrigins layers chain (key_table s mode) (key_name s) (origins_of fallback)
      → IsRuleAsWritten layers (key_steps (key_table s mode) (key_name s)) fallback → NoneDecides front
      → IsByFallback s fallback row
  by_fallback fallback value origins written none =
      let steps = key_steps (key_table s mode) (key_name s) in
      let never = none_given layers meets platforms query (about meets platforms query mode overrides scripts fields s) front
      all none in
      let both = has_fallback meets platforms query mode overrides scripts fields s never in
      let values : option_map value_view fallback.value ≡ option_map value_view row.value =
      value ∙ sym (is.value_reported ∙ ap (option_map (reported_of s)) both.0) in
      let agree : HasOriginsOf s fallback row =
      fallback_agrees layers files chain s mode fallback row origins (fallback_origins none) in
      let of_row : IfSome row.value (IsValueAsWritten (node_alone layers steps (origins_of fallback))) =
      subst (λ node. IfSome row.value (IsValueAsWritten node)) (sym (fallback_node layers steps s fallback row agree))
      is.value_as_written in
      record {
        value = record {
          value = values;
          texts = texts_alike (node_alone layers steps (origins_of fallback)) fallback.value row.value values written of_row;
        };
        origins = agree;
      }
