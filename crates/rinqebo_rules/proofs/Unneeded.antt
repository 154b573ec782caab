-- Rules that are left open are not evaluated for the settings of a test.
use Rattle.std.proofs.Common.{◌≡◌, ◌∙◌, ℕ, zero, suc, Bool, IsTrue, List, Some, Vec, Global, [], ◌∷◌, ap, arith, cond, false, filter, get_or, inl, inr, option_map, refl, slice_get, subst, sym, true, unwrap_or}
use Rattle.std.proofs.lemmas.Bool.{cases_lt, true≢false}
use Rattle.std.proofs.lemmas.Option.{same_Some, slice_get-get_or, slice_get_within}
use Rattle.std.specs.List.{AllZip}
use Rattle.nextest_elements.proofs.StandsOnce.{at_place}
use Rattle.nextest_elements.specs.Settings.{index_of, settings}
use Rattle.nextest_elements.specs.declared.setting.Setting.{Setting}
use Rattle.nextest_settings.specs.Deciding.{IsEvaluated, QueryContext}
use Rattle.nextest_settings.specs.Platforms.{EvaluatedRule}
use Rattle.nextest_rules.specs.Rules.{RuleId}
use Rattle.rinqebo_rules.specs.Distinct.{AreDistinct}
use Rattle.rinqebo_rules.specs.Passed.{IsHidden, IsPassed, IsShown, IsShownBy, ids_of}
use Rattle.rinqebo_rules.specs.Unused.{written_at}

-- what stands at a place of a list has something at that place of another one
pub zip_there : {A B : Type 0} (R : A → B → Type 0) (xs : List A) (ys : List B) (k : ℕ) (x : A)
    → AllZip R xs ys → slice_get xs k ≡ Some x → (y : B) × (slice_get ys k ≡ Some y) × R x y
zip_there R [] ys k x all here = absurd cc
zip_there R (a ∷ xs) [] k x all here = absurd all
zip_there R (a ∷ xs) (b ∷ ys) zero x all here =
    let same : a ≡ x = same_Some a x here in
    (b, refl, subst (λ z. R z b) same all.0)
zip_there R (a ∷ xs) (b ∷ ys) (suc k) x all here = zip_there R xs ys k x all.1 here

-- an element that passes is kept
kept_there_by : {A : Type 0} (y : A) (rest : List A) (b : Bool) (j : ℕ) (x : A) → slice_get rest j ≡ Some x
    → (k : ℕ) × (slice_get (cond b (y ∷ rest) rest) k ≡ Some x)
kept_there_by y rest true j x here = (suc j, here)
kept_there_by y rest false j x here = (j, here)

kept_first : {A : Type 0} (y : A) (rest : List A) (b : Bool) → b ≡ true
    → slice_get (cond b (y ∷ rest) rest) zero ≡ Some y
kept_first y rest true passes = refl
kept_first y rest false passes = absurd cc

pub kept_there : {A : Type 0} (f : A → Bool) (xs : List A) (k : ℕ) (x : A) → slice_get xs k ≡ Some x → f x ≡ true
    → (j : ℕ) × (slice_get (filter f xs) j ≡ Some x)
kept_there f [] k x here passes = absurd cc
kept_there f (y ∷ ys) zero x here passes =
    let same : y ≡ x = same_Some y x here in
    (zero, kept_first y (filter f ys) (f y) (ap f same ∙ passes) ∙ ap Some same)
kept_there f (y ∷ ys) (suc k) x here passes =
    let later = kept_there f ys k x here passes in
    kept_there_by y (filter f ys) (f y) later.0 x later.1

-- The search for a thing passed so many of the first rules, and does not show whether the rule of a
-- number holds.
pub record IsPassedBy {M W : Type 0} (query : QueryContext M) (wants : W → Bool) (id_of : W → RuleId)
    (rules : List (EvaluatedRule M W)) (n : ℕ) (are_distinct : Bool) : Type 0 where
  pub count : ℕ
  pub passed : IsPassed query wants id_of rules count
  pub hidden : IsHidden (IsShown are_distinct n count)

module _ {T M W : Type 0} (query : QueryContext M) (writes : T → W → Bool) (id_of : W → RuleId)
    (rules : List (EvaluatedRule M W)) (n : ℕ) (are_distinct : Bool) where
  -- a rule that no search reached is not evaluated by one
  pub unneeded : (IsTrue are_distinct → AreDistinct (ids_of id_of rules))
      → ((t : T) (rule : EvaluatedRule M W) → slice_get rules n ≡ Some rule → IsTrue (writes t rule.writes)
      → IsPassedBy query (writes t) id_of rules n are_distinct)
      → IsTrue are_distinct → IsEvaluated writes query rules n → ⊥
  unneeded distinct searched known needed =
      let by = searched needed.thing needed.rule needed.stands needed.written in
      let next = get_or rules by.count needed.rule in
      elim (cases_lt n by.count) [
        | inl early ↦ by.hidden false early
        | inr late ↦ elim (cases_lt by.count n) [
          | inl below ↦
              let within = slice_get_within rules n needed.rule needed.stands in
              let there : slice_get rules by.count ≡ Some next =
              slice_get-get_or rules by.count needed.rule (omega (arith, within, below)) in
              true≢false (sym (by.passed.next (distinct known) next there) ∙ needed.undecided by.count next below there)
          | inr past ↦ by.hidden true (omega (arith, late, past), known)
        ]
      ]

-- an override that no setting shows anything of is not evaluated for the settings
pub override_unneeded : {M W : Type 0} (query : QueryContext M) (writes : Setting → W → Bool) (id_of : W → RuleId)
    (rules : List (EvaluatedRule M W)) (n : ℕ) (are_distinct : Bool) (written : List (Vec Setting Global))
    (passed : List ℕ) → AllZip (λ rule settings_of. settings_of.items ≡ filter (λ s. writes s rule.writes) settings) rules written
    → AllZip (λ s. IsPassed query (writes s) id_of rules) settings passed
    → (IsTrue are_distinct → AreDistinct (ids_of id_of rules))
    → IsHidden (IsShownBy (written_at written n) n passed are_distinct)
    → IsTrue are_distinct → IsEvaluated writes query rules n → ⊥
override_unneeded query writes id_of rules n are_distinct written passed all searched distinct hidden =
    unneeded query writes id_of rules n are_distinct distinct
    (λ s rule stands wanted.
    let there = zip_there (λ rule settings_of. settings_of.items ≡ filter (λ s. writes s rule.writes) settings) rules written
    n rule all stands in
    let kept = kept_there (λ s. writes s rule.writes) settings (index_of s) s (at_place s) wanted in
    let count = zip_there (λ s. IsPassed query (writes s) id_of rules) settings passed (index_of s) s searched (at_place s) in
    record {
      count = count.0;
      passed = count.2;
      hidden = λ holds shown. hidden holds record {
        place = kept.0;
        setting = s;
        stands = ap (λ found. slice_get (unwrap_or (option_map (λ settings. settings.items) found) []) kept.0) there.1
            ∙ ap (λ ss. slice_get ss kept.0) there.2 ∙ kept.1;
        shown = record { count = count.0; passes = count.1; shown = shown };
      };
    })

-- a script rule that the run wrapper shows nothing of is not evaluated for the wrapper
pub script_rule_unneeded : {M W : Type 0} (query : QueryContext M) (wraps : W → Bool) (id_of : W → RuleId)
    (rules : List (EvaluatedRule M W)) (n count : ℕ) (are_distinct : Bool) (rule : EvaluatedRule M W)
    → slice_get rules n ≡ Some rule → IsPassed query wraps id_of rules count
    → (IsTrue are_distinct → AreDistinct (ids_of id_of rules))
    → IsHidden (λ holds. IsTrue (wraps rule.writes) × IsShown are_distinct n count holds)
    → IsTrue are_distinct → IsEvaluated (λ (wrapper : Unit {0}) w. wraps w) query rules n → ⊥
script_rule_unneeded query wraps id_of rules n count are_distinct rule stands searched distinct hidden =
    unneeded query (λ (wrapper : Unit {0}) w. wraps w) id_of rules n are_distinct distinct
    (λ wrapper other there wanted.
    let same : other ≡ rule = same_Some other rule (sym there ∙ stands) in
    record {
      count = count;
      passed = searched;
      hidden = λ holds shown. hidden holds (subst (λ r. IsTrue (wraps r.writes)) same wanted, shown);
    })
