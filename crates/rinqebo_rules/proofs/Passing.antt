-- Rules that hold for a test, or do not, by what decides its settings.
use Rattle.std.proofs.Common.{◌≡◌, ◌≢◌, ◌∙◌, ◌≤◌, ◌<◌, ◌+◌, ◌&&◌, inl, inr, ap, arith, ℕ, List, Bool, IsTrue, true, false, Option, None, Some, Vec, Global, cond, unwrap_or, [], ◌∷◌, zero, suc, IfSome, filter, find, is_some, length, not, slice_get, option_map, refl, sym, subst, lt_of_lt_of_le}
use Rattle.std.proofs.lemmas.Bool.{cases_lt}
use Rattle.std.proofs.lemmas.Option.{same_Some, slice_get-map, slice_get_within}
use Rattle.std.specs.List.{AllZip}
use Rattle.std.specs.Option.{option_or}
use Rattle.nextest_elements.specs.declared.run_mode.NextestRunMode.{NextestRunMode}
use Rattle.nextest_rules.specs.Rules.{OverrideUse, RuleId, ScriptRuleUse}
use Rattle.nextest_settings.proofs.StandsFirst.{find-least, find-none}
use Rattle.nextest_elements.proofs.StandsOnce.{at_place}
use Rattle.nextest_settings.specs.Binaries.{IsKnownFor}
use Rattle.nextest_settings.specs.Deciding.{QueryContext, StandsFirst, decides, rule_holds}
use Rattle.nextest_settings.specs.Platforms.{EvaluatedRule}
use Rattle.nextest_settings.specs.Queries.{Origin, by_override, by_profile, by_script, deciding_override, fallback_origin, origin_by, unwritten, wrapping_rule}
use Rattle.nextest_elements.specs.Settings.{index_of, settings}
use Rattle.nextest_settings.specs.Settings.{is_set}
use Rattle.nextest_elements.specs.declared.setting.Setting.{Setting}
use Rattle.nextest_elements.specs.declared.setting.Setting.TheVariants as at
use Rattle.rinqebo_rules.specs.Distinct.{AreDistinct}
use Rattle.rinqebo_rules.specs.Passed.{AreWritten, IsPassed, IsPlaceOf, IsShown, IsShownBy, ids_of, override_in}
use Rattle.rinqebo_rules.specs.Unused.{written_at}

first_fails : (a b : Bool) → (a && b) ≡ false → b ≡ true → a ≡ false
first_fails true b h is = absurd cc
first_fails false b h is = refl

first_holds : (a b : Bool) → (a && b) ≡ true → a ≡ true
first_holds true b h = refl
first_holds false b h = absurd cc

and_false : (a : Bool) → (a && false) ≡ false
and_false true = refl
and_false false = refl

-- options by which the same is shown are both there, or both not
pub some_alike : {A B C : Type 0} (f : A → C) (g : B → C) (o : Option A) (p : Option B)
    → option_map f o ≡ option_map g p → is_some o ≡ is_some p
some_alike f g None None same = refl
some_alike f g None (Some y) same = absurd cc
some_alike f g (Some x) None same = absurd cc
some_alike f g (Some x) (Some y) same = refl

-- what is shown of an option is there where the option is
pub some_shown : {A B : Type 0} (f : A → B) (o : Option A) → is_some o ≡ is_some (option_map f o)
some_shown f None = refl
some_shown f (Some x) = refl

-- what holds of two lists holds of what they have at a place
pub zip_at : {A B : Type 0} (R : A → B → Type 0) (xs : List A) (ys : List B) (k : ℕ) (x : A) (y : B) → AllZip R xs ys
    → slice_get xs k ≡ Some x → slice_get ys k ≡ Some y → R x y
zip_at R [] ys k x y all here there = absurd cc
zip_at R (a ∷ xs) [] k x y all here there = absurd all
zip_at R (a ∷ xs) (b ∷ ys) zero x y all here there =
    let e : a ≡ x = cc in
    let f : b ≡ y = cc in
    subst (R x) f (subst (λ one. R one b) e all.0)
zip_at R (a ∷ xs) (b ∷ ys) (suc k) x y all here there = zip_at R xs ys k x y all.1 here there

-- what is kept of a list passes
kept_by : {A : Type 0} (f : A → Bool) (y : A) (rest : List A) (b : Bool) (k : ℕ) (x : A) → f y ≡ b
    → ((j : ℕ) → slice_get rest j ≡ Some x → f x ≡ true) → slice_get (cond b (y ∷ rest) rest) k ≡ Some x
    → f x ≡ true
kept_by f y rest true zero x is all here =
    let same : y ≡ x = same_Some y x here in
    subst (λ z. f z ≡ true) same is
kept_by f y rest true (suc k) x is all here = all k here
kept_by f y rest false k x is all here = all k here

pub kept_passes : {A : Type 0} (f : A → Bool) (xs : List A) (k : ℕ) (x : A) → slice_get (filter f xs) k ≡ Some x
    → f x ≡ true
kept_passes f [] k x here = absurd cc
kept_passes f (y ∷ ys) k x here =
    kept_by f y (filter f ys) (f y) k x refl (λ j there. kept_passes f ys j x there) here

-- an origin that names an override is that of the override
named : (origin : Option Origin) (id : RuleId) → override_in origin ≡ Some id → origin ≡ Some (by_override id)
named None id is = absurd cc
named (Some unwritten) id is = absurd cc
named (Some by_profile) id is = absurd cc
named (Some (by_override other)) id is = ap (λ one. Some (by_override one)) (same_Some other id is)
named (Some by_script) id is = absurd cc

-- the rule that decides something, if one does, has an id
pub record IsWonBy {M W : Type 0} (id_of : W → RuleId) (id : RuleId) (found : Option (EvaluatedRule M W)) : Type 0 where
  pub rule : EvaluatedRule M W
  pub is : found ≡ Some rule
  pub has : id_of rule.writes ≡ id

module _ {M W : Type 0} (id_of : W → RuleId) (id : RuleId) (rules : List (EvaluatedRule M W)) where
  -- one rule more has not an id
  pub none_more : (k : ℕ) (rule : EvaluatedRule M W) → slice_get rules k ≡ Some rule → id_of rule.writes ≢ id
      → ((n : ℕ) (rule : EvaluatedRule M W) → n < k → slice_get rules n ≡ Some rule → id_of rule.writes ≢ id)
      → (n : ℕ) (rule : EvaluatedRule M W) → n < k + 1 → slice_get rules n ≡ Some rule → id_of rule.writes ≢ id
  none_more k rule here differs before n other below stands same =
      elim (cases_lt n k) [
        | inl early ↦ before n other early stands same
        | inr late ↦
            let at : n ≡ k = omega (arith, late, below) in
            let is : rule ≡ other = same_Some rule other (sym here ∙ ap (slice_get rules) (sym at) ∙ stands) in
            differs (ap (λ r. id_of r.writes) is ∙ same)
      ]

  -- the first rule of an id is found
  pub place_found : (k : ℕ) (rule : EvaluatedRule M W) → slice_get rules k ≡ Some rule → id_of rule.writes ≡ id
      → ((n : ℕ) (rule : EvaluatedRule M W) → n < k → slice_get rules n ≡ Some rule → id_of rule.writes ≢ id)
      → IsPlaceOf id_of id k rules
  place_found k rule here has before = record {
    before = before;
    here = λ other stands. subst (λ r. id_of r.writes ≡ id) (same_Some rule other (sym here ∙ stands)) has;
  }

  -- no rule has an id
  pub place_behind : (k : ℕ) → length rules ≤ k
      → ((n : ℕ) (rule : EvaluatedRule M W) → n < length rules → slice_get rules n ≡ Some rule → id_of rule.writes ≢ id)
      → IsPlaceOf id_of id k rules
  place_behind k past before = record {
    before = λ n rule below stands. before n rule (slice_get_within rules n rule stands) stands;
    here = λ rule stands. absurd (omega (arith, past, slice_get_within rules k rule stands));
  }

module _ {M W : Type 0} (query : QueryContext M) (wants : W → Bool) (id_of : W → RuleId)
    (rules : List (EvaluatedRule M W)) where
  abbrev found : Option (EvaluatedRule M W)
  found = find (decides query wants) rules

  first_of_found : (r : EvaluatedRule M W) → found ≡ Some r → StandsFirst (decides query wants) rules r
  first_of_found r is = by found is (find-least (decides query wants) rules) where
    by : (o : Option (EvaluatedRule M W)) → o ≡ Some r → IfSome o (StandsFirst (decides query wants) rules)
        → StandsFirst (decides query wants) rules r
    by None none first = absurd cc
    by (Some s) some first = subst (StandsFirst (decides query wants) rules) (same_Some s r some) first

  -- a rule decides: those before the first one of its id do not, and that one does if ids are distinct
  pub passed_before : (id : RuleId) (count : ℕ) → IsWonBy id_of id found → IsPlaceOf id_of id count rules
      → IsPassed query wants id_of rules count
  passed_before id count won place =
      let first = first_of_found won.rule won.is in
      let late : count ≤ first.0 = elim (cases_lt first.0 count) [
        | inl early ↦ absurd (place.before first.0 won.rule early first.1 won.has)
        | inr late ↦ late
      ] in
      record {
        before = λ n rule below stands. first.3 n rule (lt_of_lt_of_le below late) stands;
        next = λ distinct rule stands.
            let one : slice_get (ids_of id_of rules) count ≡ Some id =
            slice_get-map (λ r. id_of r.writes) rules count ∙ ap (option_map (λ r. id_of r.writes)) stands
            ∙ ap Some (place.here rule stands) in
            let other : slice_get (ids_of id_of rules) first.0 ≡ Some id =
            slice_get-map (λ r. id_of r.writes) rules first.0 ∙ ap (option_map (λ r. id_of r.writes)) first.1
            ∙ ap Some won.has in
            let same : count ≡ first.0 = distinct count first.0 id one other in
            let is : won.rule ≡ rule = same_Some won.rule rule (sym first.1 ∙ ap (slice_get rules) (sym same) ∙ stands) in
            subst (λ r. decides query wants r ≡ true) is first.2;
      }

  -- no rule decides
  pub passed_all : (count : ℕ) → length rules ≤ count → found ≡ None → IsPassed query wants id_of rules count
  passed_all count past none = record {
    before = λ n rule below stands. find-none (decides query wants) rules n rule none stands;
    next = λ distinct rule stands. absurd (omega (arith, past, slice_get_within rules count rule stands));
  }

  -- no rule writes it
  pub passed_never : (count : ℕ) → length rules ≤ count → ((w : W) → wants w ≡ false)
      → IsPassed query wants id_of rules count
  passed_never count past never = record {
    before = λ n rule below stands.
        subst (λ b. (rule_holds query rule && b) ≡ false) (sym (never rule.writes)) (and_false (rule_holds query rule));
    next = λ distinct rule stands. absurd (omega (arith, past, slice_get_within rules count rule stands));
  }

  -- what is shown of a rule that writes something is so
  pub shown_so : (count n : ℕ) (rule : EvaluatedRule M W) (are_distinct : Bool)
      → slice_get rules n ≡ Some rule → wants rule.writes ≡ true → IsPassed query wants id_of rules count
      → (IsTrue are_distinct → AreDistinct (ids_of id_of rules)) → (holds : Bool) → IsShown are_distinct n count holds
      → rule_holds query rule ≡ holds
  shown_so count n rule are_distinct stands writes passed distinct false shown =
      first_fails (rule_holds query rule) (wants rule.writes) (passed.before n rule shown stands) writes
  shown_so count n rule are_distinct stands writes passed distinct true shown =
      first_holds (rule_holds query rule) (wants rule.writes)
      (passed.next (distinct shown.1) rule (subst (λ k. slice_get rules k ≡ Some rule) shown.0 stands))

module _ {M : Type 0} (query : QueryContext M) (mode : NextestRunMode)
    (rules : List (EvaluatedRule M (OverrideUse M))) (scripts : List (EvaluatedRule M ScriptRuleUse)) where
  abbrev wants : Setting → OverrideUse M → Bool
  wants s w = is_set w.settings mode s

  no_fallback : (s : Setting) (id : RuleId) → fallback_origin s ≡ Some (by_override id) → ⊥
  no_fallback at.Priority id is = absurd cc
  no_fallback at.RunWrapper id is = absurd cc
  no_fallback s id is = absurd cc

  -- what an origin shows of the override that decides
  decided_by : (s : Setting) (id : RuleId) (found : Option (EvaluatedRule M (OverrideUse M)))
      → option_or (option_map (λ r. by_override r.writes.id) found) (fallback_origin s) ≡ Some (by_override id)
      → IsWonBy (λ w. w.id) id found
  decided_by s id None is = absurd (no_fallback s id is)
  decided_by s id (Some r) is = record { rule = r; is = refl; has = cc }

  no_script : (id : RuleId) (found : Option (EvaluatedRule M ScriptRuleUse))
      → option_or (option_map (λ r. by_script) found) None ≡ Some (by_override id) → ⊥
  no_script id None is = absurd cc
  no_script id (Some r) is = absurd cc

  decided_of : (s : Setting) (id : RuleId) → origin_by query mode rules scripts s ≡ Some (by_override id)
      → IsWonBy (λ w. w.id) id (deciding_override query mode rules s)
  decided_of at.RunWrapper id is = absurd (no_script id (wrapping_rule query scripts) is)
  decided_of s id is = decided_by s id (deciding_override query mode rules s) is

  -- an override decides a setting
  pub setting_passed : (s : Setting) (id : RuleId) (count : ℕ)
      → override_in (origin_by query mode rules scripts s) ≡ Some id → IsPlaceOf (λ w. w.id) id count rules
      → IsPassed query (wants s) (λ w. w.id) rules count
  setting_passed s id count is place =
      passed_before query (wants s) (λ w. w.id) rules id count
      (decided_of s id (named (origin_by query mode rules scripts s) id is)) place

  none_by : (s : Setting) (found : Option (EvaluatedRule M (OverrideUse M)))
      → override_in (option_or (option_map (λ r. by_override r.writes.id) found) (fallback_origin s)) ≡ None
      → found ≡ None
  none_by s None unnamed = refl
  none_by s (Some r) unnamed = absurd cc

  -- no override decides a setting
  pub setting_undecided : (s : Setting) (count : ℕ) → length rules ≤ count
      → override_in (origin_by query mode rules scripts s) ≡ None → IsPassed query (wants s) (λ w. w.id) rules count
  setting_undecided at.RunWrapper count past unnamed =
      passed_never query (wants at.RunWrapper) (λ w. w.id) rules count past (λ w. refl)
  setting_undecided s count past unnamed =
      passed_all query (wants s) (λ w. w.id) rules count past
      (none_by s (deciding_override query mode rules s) unnamed)

-- the script rule that wraps a test, by its id
module _ {M : Type 0} (query : QueryContext M) (scripts : List (EvaluatedRule M ScriptRuleUse)) where
  abbrev wraps : ScriptRuleUse → Bool
  wraps w = is_some w.scripts.run_wrapper

  won : (id : RuleId) (found : Option (EvaluatedRule M ScriptRuleUse))
      → option_map (λ uses. uses.id) (option_map (λ r. r.writes) found) ≡ Some id → IsWonBy (λ w. w.id) id found
  won id None is = absurd cc
  won id (Some r) is = record { rule = r; is = refl; has = cc }

  none_won : (found : Option (EvaluatedRule M ScriptRuleUse))
      → option_map (λ uses. uses.id) (option_map (λ r. r.writes) found) ≡ None → found ≡ None
  none_won None is = refl
  none_won (Some r) is = absurd cc

  pub wrapper_passed : (id : RuleId) (count : ℕ)
      → option_map (λ uses. uses.id) (option_map (λ r. r.writes) (wrapping_rule query scripts)) ≡ Some id
      → IsPlaceOf (λ w. w.id) id count scripts → IsPassed query wraps (λ w. w.id) scripts count
  wrapper_passed id count is place =
      passed_before query wraps (λ w. w.id) scripts id count (won id (wrapping_rule query scripts) is) place

  pub wrapper_unnamed : (count : ℕ) → length scripts ≤ count
      → option_map (λ uses. uses.id) (option_map (λ r. r.writes) (wrapping_rule query scripts)) ≡ None
      → IsPassed query wraps (λ w. w.id) scripts count
  wrapper_unnamed count past is =
      passed_all query wraps (λ w. w.id) scripts count past (none_won (wrapping_rule query scripts) is)

-- the settings that an override of a number is known to write
pub written_of : {M : Type 0} (mode : NextestRunMode) (rules : List (EvaluatedRule M (OverrideUse M)))
    (written : List (Vec Setting Global)) (n : ℕ) (rule : EvaluatedRule M (OverrideUse M))
    → AllZip (AreWritten mode) rules written → slice_get rules n ≡ Some rule
    → (k : ℕ) (s : Setting) → slice_get (written_at written n) k ≡ Some s
    → is_set rule.writes.settings mode s ≡ true
written_of mode rules written n rule all stands k s = by_place (slice_get written n) refl where
  by_place : (found : Option (Vec Setting Global)) → slice_get written n ≡ found
      → slice_get (unwrap_or (option_map (λ settings. settings.items) found) []) k ≡ Some s
      → is_set rule.writes.settings mode s ≡ true
  by_place None is here = absurd cc
  by_place (Some settings_of) is here =
      let are : AreWritten mode rule settings_of = zip_at (AreWritten mode) rules written n rule settings_of all stands is in
      kept_passes (λ one. is_set rule.writes.settings mode one) settings k s
      (subst (λ ss. slice_get ss k ≡ Some s) are here)

-- what the settings that an override writes show of it is so
pub override_shown : {M : Type 0} (query : QueryContext M) (mode : NextestRunMode)
    (rules : List (EvaluatedRule M (OverrideUse M))) (written : List Setting) (n : ℕ) (passed : List ℕ)
    (are_distinct : Bool) (rule : EvaluatedRule M (OverrideUse M)) → slice_get rules n ≡ Some rule
    → ((k : ℕ) (s : Setting) → slice_get written k ≡ Some s → is_set rule.writes.settings mode s ≡ true)
    → AllZip (λ s. IsPassed query (λ w. is_set w.settings mode s) (λ w. w.id) rules) settings passed
    → (IsTrue are_distinct → AreDistinct (ids_of (λ w. w.id) rules)) → (holds : Bool)
    → IsShownBy written n passed are_distinct holds → rule_holds query rule ≡ holds
override_shown query mode rules written n passed are_distinct rule stands writes all distinct holds shown =
    let s = shown.setting in
    let P : Setting → ℕ → Type 0 = λ s. IsPassed query (λ w. is_set w.settings mode s) (λ w. w.id) rules in
    shown_so query (λ w. is_set w.settings mode s) (λ w. w.id) rules shown.shown.count n rule are_distinct stands
    (writes shown.place s shown.stands)
    (zip_at P settings passed (index_of s) s shown.shown.count all (at_place s) shown.shown.passes)
    distinct holds shown.shown.shown

-- what the run wrapper shows of a script rule is so
pub script_rule_shown : {M : Type 0} (query : QueryContext M) (rules : List (EvaluatedRule M ScriptRuleUse))
    (count n : ℕ) (rule : EvaluatedRule M ScriptRuleUse) (are_distinct : Bool) → slice_get rules n ≡ Some rule
    → IsPassed query (λ w. is_some w.scripts.run_wrapper) (λ w. w.id) rules count
    → (IsTrue are_distinct → AreDistinct (ids_of (λ w. w.id) rules)) → (shown : Option Bool)
    → IfSome shown (λ holds. IsTrue (is_some rule.writes.scripts.run_wrapper) × IsShown are_distinct n count holds)
    → IsKnownFor query rule shown
script_rule_shown query rules count n rule are_distinct stands passed distinct None shown = tt
script_rule_shown query rules count n rule are_distinct stands passed distinct (Some holds) shown =
    shown_so query (λ w. is_some w.scripts.run_wrapper) (λ w. w.id) rules count n rule are_distinct stands
    shown.0 passed distinct holds shown.1
