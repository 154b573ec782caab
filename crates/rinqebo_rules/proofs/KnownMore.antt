-- More that is known of script rules for a test: whether those hold that name a setup script.
use Rattle.std.proofs.Common.{◌≡◌, ◌∙◌, ◌<◌, ◌+◌, ◌++◌, ◌∷◌, [], ◌&&◌, ℕ, zero, suc, Bool, IsTrue, List, None, Option, Some, true, false, ap, arith, inl, inr, is_some, length, option_and_then, refl, slice_get, subst, sym, unwrap_or}
use Rattle.std.proofs.lemmas.Bool.{cases_lt, true≢false}
use Rattle.std.proofs.lemmas.Option.{same_Some}
use Rattle.nextest_rules.specs.Rules.{ScriptRuleUse}
use Rattle.nextest_settings.specs.Deciding.{IsEvaluated, QueryContext, rule_holds}
use Rattle.nextest_settings.specs.Platforms.{EvaluatedRule}
use Rattle.nextest_settings.specs.Profile.{EvaluatableModel}
use Rattle.nextest_tables.specs.Written.{Name}
use Rattle.nextest_tree.specs.Schema.{is_one_of}
use Rattle.rinqebo_objects.proofs.Enabled.{adds_none}
use Rattle.rinqebo_rules.specs.BinaryRules.{known_at}
use Rattle.rinqebo_rules.specs.Evaluations.{IsNamedAt, IsOpenNamed, IsOpenUnnamed, IsScriptOpenIn}
use Rattle.rinqebo_rules.specs.Passed.{IsHidden}
use Rattle.rinqebo_rules.specs.SetupRules.{AreKnownMore, IsKnownMore, names_setup}
use Rattle.rinqebo_rules.specs.declared.unused.UsedRules.{UsedRules}

-- what is put behind a list stands there
put_last : {A : Type 0} (xs : List A) (x : A) → slice_get (xs ++ x ∷ []) (length xs) ≡ Some x
put_last [] x = refl
put_last (y ∷ ys) x = put_last ys x

-- what is before it stays
put_before : {A : Type 0} (xs : List A) (x : A) (m : ℕ) → m < length xs → slice_get (xs ++ x ∷ []) m ≡ slice_get xs m
put_before [] x m below = absurd (omega (arith, below))
put_before (y ∷ ys) x zero below = refl
put_before (y ∷ ys) x (suc m) below = put_before ys x m (omega (arith, below))

-- what holds of the rules so far and of what is known of them, and of one more
module _ {A : Type 0} (P : ℕ → A → Option Bool → Type 0) (rules : List A) (n : ℕ) (rule : A) where
  pub known_turn : slice_get rules n ≡ Some rule → (old new : List (Option Bool)) (here : Option Bool) → length old ≡ n
      → new ≡ old ++ here ∷ [] → P n rule here
      → ((m : ℕ) (r : A) → m < n → slice_get rules m ≡ Some r → P m r (known_at old m))
      → (m : ℕ) (r : A) → m < n + 1 → slice_get rules m ≡ Some r → P m r (known_at new m)
  known_turn stands old new here long put is so_far m r below there =
      let flat : Option (Option Bool) → Option Bool = λ found. option_and_then (λ holds. holds) found in
      elim (cases_lt m n) [
        | inl early ↦
            let same : known_at old m ≡ known_at new m =
            ap flat (sym (put_before old here m (omega (arith, early, long))) ∙ ap (λ ks. slice_get ks m) (sym put)) in
            subst (P m r) same (so_far m r early there)
        | inr late ↦
            let at : m ≡ n = omega (arith, late, below) in
            let one : rule ≡ r = same_Some rule r (sym stands ∙ ap (slice_get rules) (sym at) ∙ there) in
            let known : here ≡ known_at new m =
            ap flat (sym (put_last old here) ∙ ap (slice_get (old ++ here ∷ [])) (long ∙ sym at)
            ∙ ap (λ ks. slice_get ks m) (sym put)) in
            subst (P m r) known (subst (λ x. P m x here) one (subst (λ k. P k rule here) (sym at) is))
      ]

not_true : (b : Bool) → (b ≡ true → ⊥) → b ≡ false
not_true true never = absurd (never refl)
not_true false never = refl

module _ {M : Type 0} (query : QueryContext M) (rule : EvaluatedRule M ScriptRuleUse) (known : Option Bool) where
  -- a rule that is known to hold holds
  pub holds_known : (found : Option Bool) → unwrap_or found false ≡ true → IsKnownMore query rule known found
      → rule_holds query rule ≡ true
  holds_known None is here = absurd cc
  holds_known (Some true) is here = here.so
  holds_known (Some false) is here = absurd cc

  -- a rule that is not known to hold enables no script
  pub adds_nothing : (id : Name) (found : Option Bool) → unwrap_or found false ≡ false
      → IsKnownMore query rule known found → (rule_holds query rule && is_one_of rule.writes.scripts.setup id) ≡ false
  adds_nothing id None is here =
      adds_none (rule_holds query rule) rule.writes.scripts.setup id
      (not_true (names_setup rule.writes) (λ names. true≢false (sym (here.named names))))
  adds_nothing id (Some true) is here = absurd cc
  adds_nothing id (Some false) is here = ap (λ b. b && is_one_of rule.writes.scripts.setup id) here.so

module _ {M : Type 0} (query : QueryContext M) (profile : EvaluatableModel M) (used : UsedRules)
    (known : List (Option Bool)) where
  -- a rule that is evaluated since it names a setup script is not evaluated for the run wrapper
  pub named_in : (shows : ℕ → ScriptRuleUse → Bool → Type 0)
      → ((n : ℕ) (rule : EvaluatedRule M ScriptRuleUse) → slice_get profile.script_rules n ≡ Some rule
      → IsHidden (shows n rule.writes) → IsTrue used.are_script_rules_distinct
      → IsEvaluated (λ (wrapper : Unit {0}) w. is_some w.scripts.run_wrapper) query profile.script_rules n → ⊥)
      → (number : ℕ) → IsNamedAt query known shows (length profile.overrides) profile.script_rules number
      → IsOpenNamed query profile used known number
  named_in shows unneeded number one = record {
    is_open = record {
      place = one.place;
      numbered = one.numbered;
      rule = one.rule;
      stands = one.stands;
      asked = one.is_open.asked;
      unmatched = refl;
      undecided = one.is_open.unknown;
      unneeded = unneeded one.place one.rule one.stands one.is_open.hidden;
    };
    names = one.is_open.names;
  }

  -- a rule that is left open where more is known names no setup script
  pub unnamed_in : (tests : List (QueryContext M)) (more : List (Option Bool))
      → AreKnownMore query profile.script_rules known more
      → (number : ℕ) → IsScriptOpenIn tests query profile used more number
      → IsOpenUnnamed tests query profile used known number
  unnamed_in tests more are number one =
      let here = are one.place one.rule one.stands in
      record {
        is_open = record {
          place = one.place;
          numbered = one.numbered;
          rule = one.rule;
          stands = one.stands;
          asked = one.asked;
          unmatched = one.unmatched;
          undecided = here.kept one.undecided;
          unneeded = one.unneeded;
        };
        names_none = not_true (names_setup one.rule.writes)
            (λ names. true≢false (sym (here.named names) ∙ ap is_some one.undecided));
      }
