-- Setup scripts that tests enable, by the script rules that hold for some of the tests.
use Rattle.std.proofs.Common.{◌≡◌, ◌∙◌, ◌∷◌, [], ◌&&◌, ◌||◌, ◌+◌, ℕ, Bool, List, Some, true, false, ap, ap₂, map, refl, slice_get, sym, take, unwrap_or}
use Rattle.std.proofs.lemmas.List.Folds.{list_any_at, list_any_more}
use Rattle.std.proofs.lemmas.Option.{get_or_from_slice_get, slice_get_within}
use Rattle.std.specs.List.{list_any}
use Rattle.nextest_rules.specs.Rules.{ScriptRuleUse}
use Rattle.nextest_settings.specs.Deciding.{QueryContext, rule_holds}
use Rattle.nextest_settings.specs.Platforms.{EvaluatedRule}
use Rattle.nextest_settings.specs.Queries.{is_enabled_for}
use Rattle.nextest_tables.specs.Written.{Name}
use Rattle.nextest_tree.specs.Schema.{is_one_of}
use Rattle.rinqebo_rules.proofs.Marked.{mark_of}
use Rattle.rinqebo_rules.specs.Unused.{is_used}

any_never : {X : Type 0} (xs : List X) → list_any (λ x. false) xs ≡ false
any_never [] = refl
any_never (x ∷ xs) = any_never xs

swap_or : (a b c d : Bool) → ((a || b) || (c || d)) ≡ ((a || c) || (b || d))
swap_or true b c d = refl
swap_or false true true d = refl
swap_or false true false d = refl
swap_or false false true d = refl
swap_or false false false d = refl

any_or : {X : Type 0} (p q : X → Bool) (xs : List X)
    → list_any (λ x. p x || q x) xs ≡ (list_any p xs || list_any q xs)
any_or p q [] = refl
any_or p q (x ∷ xs) =
    ap (λ rest. (p x || q x) || rest) (any_or p q xs) ∙ swap_or (p x) (q x) (list_any p xs) (list_any q xs)

or_and : (a b c : Bool) → ((a && c) || (b && c)) ≡ ((a || b) && c)
or_and true true true = refl
or_and true true false = refl
or_and true false true = refl
or_and true false false = refl
or_and false b c = refl

any_and : {X : Type 0} (p : X → Bool) (b : Bool) (xs : List X) → list_any (λ x. p x && b) xs ≡ (list_any p xs && b)
any_and p b [] = refl
any_and p b (x ∷ xs) = ap (λ rest. (p x && b) || rest) (any_and p b xs) ∙ or_and (p x) (list_any p xs) b

-- whether a rule holds for some of the tests and names a script
abbrev pub is_used_for : {M : Type 0} → List (QueryContext M) → Name → EvaluatedRule M ScriptRuleUse → Bool
is_used_for tests id rule = is_used tests rule && is_one_of rule.writes.scripts.setup id

-- some of the tests enable a script where a rule that holds for some of them names it
pub enabled_alike : {M : Type 0} (tests : List (QueryContext M)) (id : Name) (rules : List (EvaluatedRule M ScriptRuleUse))
    → list_any (is_used_for tests id) rules ≡ list_any (λ query. is_enabled_for query rules id) tests
enabled_alike tests id [] = sym (any_never tests)
enabled_alike tests id (rule ∷ rules) =
    let names = is_one_of rule.writes.scripts.setup id in
    ap₂ (λ a b. a || b) (sym (any_and (λ test. rule_holds test rule) names tests)) (enabled_alike tests id rules)
    ∙ sym (any_or (λ test. rule_holds test rule && names) (λ query. is_enabled_for query rules id) tests)

module _ {M : Type 0} (tests : List (QueryContext M)) (id : Name) (rules : List (EvaluatedRule M ScriptRuleUse)) (n : ℕ)
    (rule : EvaluatedRule M ScriptRuleUse) where
  -- whether a rule holds for some of the tests and names the script, by its mark
  pub by_mark : (marks : List Bool) → marks ≡ map (is_used tests) rules → slice_get rules n ≡ Some rule
      → (found b : Bool)
      → found ≡ (unwrap_or (slice_get marks n) false && is_one_of rule.writes.scripts.setup id) → found ≡ b
      → is_used_for tests id rule ≡ b
  by_mark marks are stands found b is same =
      ap (λ m. m && is_one_of rule.writes.scripts.setup id) (sym (mark_of tests rules n rule marks are stands))
      ∙ sym is ∙ same

  -- a rule that holds for some of the tests and names the script enables it
  pub enabled_here : slice_get rules n ≡ Some rule → is_used_for tests id rule ≡ true
      → list_any (λ query. is_enabled_for query rules id) tests ≡ true
  enabled_here stands holds =
      sym (enabled_alike tests id rules)
      ∙ list_any_at (is_used_for tests id) rules n rule (slice_get_within rules n rule stands)
      (ap (is_used_for tests id) (get_or_from_slice_get rules n rule rule stands) ∙ holds)

  -- no rule so far enables the script, nor does one more
  pub not_enabled_more : slice_get rules n ≡ Some rule → is_used_for tests id rule ≡ false
      → list_any (is_used_for tests id) (take n rules) ≡ false
      → list_any (is_used_for tests id) (take (n + 1) rules) ≡ false
  not_enabled_more stands fails none =
      list_any_more (is_used_for tests id) rules n rule (slice_get_within rules n rule stands)
      ∙ ap₂ (λ a b. a || b) none (ap (is_used_for tests id) (get_or_from_slice_get rules n rule rule stands) ∙ fails)
