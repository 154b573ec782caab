-- The rule with the verdict that it decides gives a setting its value and its origins.
use Rattle.std.proofs.Common.{◌≡◌, ◌≢◌, inl, inr, ◌∙◌, ℕ, zero, suc, Bool, true, false, ◌&&◌, cond, List, [], ◌∷◌, ◌++◌, Option, None, Some, is_some, map, option_map, option_and_then, slice_get, refl, sym, ap, subst}
use Rattle.std.proofs.lemmas.Bool.{and_parts, cases_order}
use Rattle.std.proofs.lemmas.Option.{slice_get-map}
use Rattle.std.specs.List.{AllZip}
use Rattle.std.specs.Option.{option_or}
use Rattle.nextest_elements.specs.declared.run_mode.NextestRunMode.{NextestRunMode}
use Rattle.nextest_engines.specs.declared.queries.BuildPlatforms.{BuildPlatforms}
use Rattle.nextest_rules.specs.Rules.{Compiled, OverrideUse, RuleId, ScriptRuleUse}
use Rattle.nextest_settings.specs.Deciding.{QueryContext, decides, rule_holds, winner}
use Rattle.nextest_settings.specs.Platforms.{EvaluatedRule, rule_on}
use Rattle.nextest_settings.specs.Queries.{Origin, fallback_origin, origin_by, value_by, wrapping_rule}
use Rattle.nextest_settings.specs.Settings.{ValueOf, fallback_of, is_set, sets}
use Rattle.nextest_elements.specs.declared.setting.Setting.{Setting}
use Rattle.nextest_elements.specs.declared.setting.Setting.TheVariants as at
use Rattle.nextest_tables.specs.Written.{WrittenFields}
use Rattle.rinqebo_report.specs.declared.origin.Origin.{Origin as Reported}
use Rattle.rinqebo_rules.proofs.VerdictsOf.{verdicts-none, verdicts-nth, verdicts-winner}
use Rattle.rinqebo_origins.specs.Origins.{IsOriginOf, key_steps}
use Rattle.rinqebo_origins.specs.Reported.{reported_of}
use Rattle.rinqebo_rules.specs.SettingRules.{RuleFor, RuleValue, for_setting, on_setting, override_writes, rules_for, wrapper_written, writes_it}
use Rattle.rinqebo_origins.specs.Settings.{is_by_rule}
use Rattle.rinqebo_origins.specs.TestOrigins.{AreOriginsBy, Basis}
use Rattle.rinqebo_rules.specs.Verdicts.{verdicts_after, verdicts_of}
use Rattle.rinqebo_rules.specs.declared.verdict.RuleVerdict.{RuleVerdict}
use Rattle.rinqebo_rules.specs.declared.verdict.RuleVerdict.TheVariants.{Decides}

-- ---- options

pub some_mapped : {X Y : Type 0} (f : X → Y) (o : Option X) → is_some (option_map f o) ≡ is_some o
some_mapped f None = refl
some_mapped f (Some x) = refl

or_some : {X : Type 0} (o other : Option X) → is_some o ≡ true → option_or o other ≡ o
or_some None other some = absurd cc
or_some (Some x) other some = refl

pub mapped_back : {X Y : Type 0} (f : X → Y) (o : Option X) (y : Y) → option_map f o ≡ Some y
    → (x : X) × (o ≡ Some x) × (f x ≡ y)
mapped_back f None y is = absurd cc
mapped_back f (Some x) y is = let same : f x ≡ y = cc in (x, refl, same)

none_back : {X Y : Type 0} (f : X → Y) (o : Option X) → option_map f o ≡ None → o ≡ None
none_back f None is = refl
none_back f (Some x) is = absurd cc

-- ---- verdicts of rules

module _ {M W : Type 0} (query : QueryContext M) (wants : W → Bool) where
  -- where there is a verdict, there is a rule
  rule_after : (before rules : List (EvaluatedRule M W)) (n : ℕ) (v : RuleVerdict)
      → slice_get (verdicts_after query wants before rules) n ≡ Some v
      → (rule : EvaluatedRule M W) × (slice_get rules n ≡ Some rule)
  rule_after before [] n v is = absurd cc
  rule_after before (r ∷ rules) zero v is = (r, refl)
  rule_after before (r ∷ rules) (suc n) v is = rule_after (before ++ r ∷ []) rules n v is

  pub rule_with : (rules : List (EvaluatedRule M W)) (n : ℕ) (v : RuleVerdict)
      → slice_get (verdicts_of query wants rules) n ≡ Some v
      → (rule : EvaluatedRule M W) × (slice_get rules n ≡ Some rule)
  rule_with rules n v is = rule_after [] rules n v is

  -- at most one rule decides
  pub one_decides : (rules : List (EvaluatedRule M W)) (n m : ℕ)
      → slice_get (verdicts_of query wants rules) n ≡ Some Decides
      → slice_get (verdicts_of query wants rules) m ≡ Some Decides → n ≡ m
  one_decides rules n m one other =
      let left = rule_with rules n Decides one in
      let right = rule_with rules m Decides other in
      let first = verdicts-nth query wants rules n left.0 left.1 in
      let second = verdicts-nth query wants rules m right.0 right.1 in
      let is = first.0 one in
      let has = second.0 other in
      elim (cases_order n m) [
        | inl e ↦ e
        | inr (inl e) ↦ (let no = has.first n left.0 e left.1 in let yes = is.holds in absurd cc)
        | inr (inr e) ↦ (let no = is.first m right.0 e right.1 in let yes = has.holds in absurd cc)
      ]

-- ---- rules for a setting

module _ {M K P W : Type 0} (meets : K → P → Option Bool) (platforms : BuildPlatforms P) (query : QueryContext M)
    (view : W → RuleValue) (wants : W → Bool) (agree : (w : W) → writes_it (view w) ≡ wants w) where
  abbrev on : List (Compiled M K W) → List (EvaluatedRule M W)
  on rules = map (rule_on meets platforms) rules

  abbrev turned : List (Compiled M K W) → List (RuleFor M K)
  turned rules = map (for_setting view) rules

  -- the verdicts on rules for the setting
  abbrev said : List (Compiled M K W) → List RuleVerdict
  said rules = verdicts_of query writes_it (map (rule_on meets platforms) (turned rules))

  moved : (rules : List (Compiled M K W)) → map (rule_on meets platforms) (turned rules) ≡ map (on_setting view) (on rules)
  moved [] = refl
  moved (rule ∷ rules) = ap (λ more. on_setting view (rule_on meets platforms rule) ∷ more) (moved rules)

  by_first : (rule : EvaluatedRule M W) (b c : Bool) (found : Option (EvaluatedRule M RuleValue))
      (first : Option (EvaluatedRule M W)) → b ≡ c → found ≡ option_map (on_setting view) first
      → cond b (Some (on_setting view rule)) found ≡ option_map (on_setting view) (cond c (Some rule) first)
  by_first rule true true found first same is = refl
  by_first rule true false found first same is = absurd cc
  by_first rule false true found first same is = absurd cc
  by_first rule false false found first same is = is

  winner_moved : (rules : List (EvaluatedRule M W)) → winner query writes_it (map (on_setting view) rules)
      ≡ option_map (on_setting view) (winner query wants rules)
  winner_moved [] = refl
  winner_moved (rule ∷ rules) =
      by_first rule (decides query writes_it (on_setting view rule)) (decides query wants rule)
      (winner query writes_it (map (on_setting view) rules)) (winner query wants rules)
      (ap (λ b. rule_holds query rule && b) (agree rule.writes)) (winner_moved rules)

  winner_is : (rules : List (Compiled M K W)) → winner query writes_it (map (rule_on meets platforms) (turned rules))
      ≡ option_map (on_setting view) (winner query wants (on rules))
  winner_is rules = ap (winner query writes_it) (moved rules) ∙ winner_moved (on rules)

  -- the rule that decides writes what the first rule writes that holds and writes the setting
  pub record IsFirst (rules : List (Compiled M K W)) (writes : RuleValue) : Type 0 where
    pub rule : EvaluatedRule M W
    pub first : winner query wants (on rules) ≡ Some rule
    pub same : view rule.writes ≡ writes
    pub some : is_some writes.value ≡ true

  pub decided_by : (rules : List (Compiled M K W)) (n : ℕ) (rule : RuleFor M K) → slice_get (turned rules) n ≡ Some rule
      → slice_get (said rules) n ≡ Some Decides → IsFirst rules rule.writes
  decided_by rules n rule there decides' =
      let all = map (rule_on meets platforms) (turned rules) in
      let here : slice_get all n ≡ Some (rule_on meets platforms rule) =
      slice_get-map (rule_on meets platforms) (turned rules) n ∙ ap (option_map (rule_on meets platforms)) there in
      let is : option_map (on_setting view) (winner query wants (on rules)) ≡ Some (rule_on meets platforms rule) =
      sym (winner_is rules) ∙ verdicts-winner query writes_it all n decides' ∙ here in
      let back = mapped_back (on_setting view) (winner query wants (on rules)) (rule_on meets platforms rule) is in
      let nth = verdicts-nth query writes_it all n (rule_on meets platforms rule) here in
      let holds = (nth.0 decides').holds in
      let parts = and_parts (rule_holds query (rule_on meets platforms rule)) (writes_it rule.writes) holds in
      record {
        rule = back.0;
        first = back.1;
        same = ap (λ (r : EvaluatedRule M RuleValue). r.writes) back.2;
        some = parts.1;
      }

  pub none_decided : (rules : List (Compiled M K W)) → ((n : ℕ) → slice_get (said rules) n ≢ Some Decides)
      → winner query wants (on rules) ≡ None
  none_decided rules never =
      let all = map (rule_on meets platforms) (turned rules) in
      let both = verdicts-none query writes_it all in
      none_back (on_setting view) (winner query wants (on rules)) (sym (winner_is rules) ∙ both.1 never)

-- ---- the value and the origins of a setting

module _ {M K P : Type 0} (meets : K → P → Option Bool) (platforms : BuildPlatforms P) (query : QueryContext M)
    (mode : NextestRunMode) (overrides : List (Compiled M K (OverrideUse M)))
    (scripts : List (Compiled M K ScriptRuleUse)) (fields : List WrittenFields) where
  abbrev pub given : (s : Setting) → Option (ValueOf s)
  given s = value_by query mode (map (rule_on meets platforms) overrides) (map (rule_on meets platforms) scripts) fields s

  abbrev pub source : Setting → Option Origin
  source s = origin_by query mode (map (rule_on meets platforms) overrides) (map (rule_on meets platforms) scripts) s

  abbrev pub wrapping : Option RuleId
  wrapping = option_map (λ r. r.writes.id) (wrapping_rule query (map (rule_on meets platforms) scripts))

  abbrev pub about : Setting → List (RuleFor M K)
  about s = rules_for s mode overrides scripts

  abbrev pub verdicts : Setting → List RuleVerdict
  verdicts s = verdicts_of query writes_it (map (rule_on meets platforms) (about s))

  -- A setting has what a rule writes: its value, and the origins of the setting in that rule.
  pub record HasRule (s : Setting) (writes : RuleValue) : Type 0 where
    pub some : is_some writes.value ≡ true
    pub ruled : is_by_rule (source s) ≡ true
    pub value : option_map (reported_of s) (given s) ≡ writes.value
    pub origins : (basis : Basis) (table : Option (List ℕ)) (name : List ℕ) (origins : List Reported)
        → AreOriginsBy basis wrapping table name (source s) origins
        → AllZip (λ place. IsOriginOf basis.layers place (key_steps table name)) (writes.place ∷ []) origins

  -- of settings that overrides write
  abbrev Wanted : Setting → OverrideUse M → Bool
  Wanted s w = is_set w.settings mode s

  abbrev first_for : Setting → Option (EvaluatedRule M (OverrideUse M))
  first_for s = winner query (Wanted s) (map (rule_on meets platforms) overrides)

  abbrev written_by : (s : Setting) → Option (EvaluatedRule M (OverrideUse M)) → Option (ValueOf s)
  written_by s found =
      option_or (option_and_then (λ (r : EvaluatedRule M (OverrideUse M)). sets r.writes.settings mode s) found)
      (fallback_of fields mode s)

  abbrev source_by : Setting → Option (EvaluatedRule M (OverrideUse M)) → Option Origin
  source_by s found =
      option_or (option_map (λ (r : EvaluatedRule M (OverrideUse M)). Origin.by_override r.writes.id) found)
      (fallback_origin s)

  override_agrees : (s : Setting) (w : OverrideUse M) → writes_it (override_writes s mode w) ≡ Wanted s w
  override_agrees s w = some_mapped (reported_of s) (sets w.settings mode s)

  override_given : (s : Setting) → written_by s (first_for s) ≡ given s → source_by s (first_for s) ≡ source s
      → (writes : RuleValue)
      → IsFirst meets platforms query (override_writes s mode) (Wanted s) (override_agrees s) overrides writes
      → HasRule s writes
  override_given s value origin writes is =
      let it = sets is.rule.writes.settings mode s in
      let written : option_map (reported_of s) it ≡ writes.value = ap (λ (v : RuleValue). v.value) is.same in
      let some : is_some it ≡ true = sym (some_mapped (reported_of s) it) ∙ ap is_some written ∙ is.some in
      let has : given s ≡ it =
      sym value ∙ ap (written_by s) is.first ∙ or_some it (fallback_of fields mode s) some in
      let from : source s ≡ Some (Origin.by_override is.rule.writes.id) = sym origin ∙ ap (source_by s) is.first in
      record {
        some = is.some;
        ruled = ap is_by_rule from;
        value = ap (option_map (reported_of s)) has ∙ written;
        origins = λ basis table name origins are.
            subst (λ place. AllZip (λ p. IsOriginOf basis.layers p (key_steps table name)) (place ∷ []) origins)
            (ap (λ (v : RuleValue). v.place) is.same)
            (subst (λ o. AreOriginsBy basis wrapping table name o origins) from are);
      }

  override_not_given : (s : Setting) → written_by s (first_for s) ≡ given s → source_by s (first_for s) ≡ source s
      → first_for s ≡ None → (given s ≡ fallback_of fields mode s) × (source s ≡ fallback_origin s)
  override_not_given s value origin none =
      (sym value ∙ ap (written_by s) none, sym origin ∙ ap (source_by s) none)

  -- of run wrappers, which script rules write
  abbrev Wrapping : ScriptRuleUse → Bool
  Wrapping w = is_some w.scripts.run_wrapper

  abbrev first_wrapper : Option (EvaluatedRule M ScriptRuleUse)
  first_wrapper = winner query Wrapping (map (rule_on meets platforms) scripts)

  abbrev wrapper_by : Option (EvaluatedRule M ScriptRuleUse) → Option (ValueOf at.RunWrapper)
  wrapper_by found =
      option_or (option_and_then (λ (r : EvaluatedRule M ScriptRuleUse). r.writes.scripts.run_wrapper) found) None

  abbrev wrapper_source : Option (EvaluatedRule M ScriptRuleUse) → Option Origin
  wrapper_source found = option_or (option_map (λ (r : EvaluatedRule M ScriptRuleUse). Origin.by_script) found) None

  wrapper_agrees : (w : ScriptRuleUse) → writes_it (wrapper_written w) ≡ Wrapping w
  wrapper_agrees w = some_mapped (reported_of at.RunWrapper) w.scripts.run_wrapper

  wrapper_given : (writes : RuleValue)
      → IsFirst meets platforms query wrapper_written Wrapping wrapper_agrees scripts writes → HasRule at.RunWrapper writes
  wrapper_given writes is =
      let it = is.rule.writes.scripts.run_wrapper in
      let written : option_map (reported_of at.RunWrapper) it ≡ writes.value = ap (λ (v : RuleValue). v.value) is.same in
      let some : is_some it ≡ true = sym (some_mapped (reported_of at.RunWrapper) it) ∙ ap is_some written ∙ is.some in
      let has : given at.RunWrapper ≡ it = ap wrapper_by is.first ∙ or_some it None some in
      let from : source at.RunWrapper ≡ Some Origin.by_script = ap wrapper_source is.first in
      let id : wrapping ≡ Some is.rule.writes.id =
      ap (option_map (λ (r : EvaluatedRule M ScriptRuleUse). r.writes.id)) is.first in
      record {
        some = is.some;
        ruled = ap is_by_rule from;
        value = ap (option_map (reported_of at.RunWrapper)) has ∙ written;
        origins = λ basis table name origins are.
            subst (λ place. AllZip (λ p. IsOriginOf basis.layers p (key_steps table name)) (place ∷ []) origins)
            (ap (λ (v : RuleValue). v.place) is.same)
            (subst (λ w. AreOriginsBy basis w table name (Some Origin.by_script) origins) id
            (subst (λ o. AreOriginsBy basis wrapping table name o origins) from are));
      }

  wrapper_not_given : first_wrapper ≡ None
      → (given at.RunWrapper ≡ fallback_of fields mode at.RunWrapper) × (source at.RunWrapper ≡ fallback_origin at.RunWrapper)
  wrapper_not_given none = (ap wrapper_by none, ap wrapper_source none)

  -- a setting has what the rule writes that decides
  pub has_rule : (s : Setting) (n : ℕ) (rule : RuleFor M K) → slice_get (about s) n ≡ Some rule
      → slice_get (verdicts s) n ≡ Some Decides → HasRule s rule.writes
  has_rule at.RunWrapper n rule there decides' =
      wrapper_given rule.writes
      (decided_by meets platforms query wrapper_written Wrapping wrapper_agrees scripts n rule there decides')
  has_rule s n rule there decides' =
      override_given s refl refl rule.writes
      (decided_by meets platforms query (override_writes s mode) (Wanted s) (override_agrees s) overrides n rule there
      decides')

  -- and that of the fallback where none decides
  pub has_fallback : (s : Setting) → ((n : ℕ) → slice_get (verdicts s) n ≢ Some Decides)
      → (given s ≡ fallback_of fields mode s) × (source s ≡ fallback_origin s)
  has_fallback at.RunWrapper never =
      wrapper_not_given (none_decided meets platforms query wrapper_written Wrapping wrapper_agrees scripts never)
  has_fallback s never =
      override_not_given s refl refl
      (none_decided meets platforms query (override_writes s mode) (Wanted s) (override_agrees s) overrides never)

-- no rule decides where nothing decides: whatever wraps the run
pub any_wrapping : (basis : Basis) (wraps other : Option RuleId) (table : Option (List ℕ)) (name : List ℕ) (s : Setting)
    (origins : List Reported) → AreOriginsBy basis wraps table name (fallback_origin s) origins
    → AreOriginsBy basis other table name (fallback_origin s) origins
any_wrapping basis wraps other table name at.Priority origins are = are
any_wrapping basis wraps other table name at.RunWrapper origins are = are
any_wrapping basis wraps other table name s origins are = are

-- a fallback is by no rule
pub not_ruled : (s : Setting) → is_by_rule (fallback_origin s) ≡ false
not_ruled at.Priority = refl
not_ruled at.RunWrapper = refl
not_ruled s = refl
