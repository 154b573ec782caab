-- The setup scripts that a test enables, rule by rule.
use Rattle.std.proofs.Common.{◌≡◌, ◌∙◌, ◌+◌, ◌++◌, ◌∷◌, [], ◌&&◌, ◌||◌, ◌==◌, ℕ, Bool, List, Some, true, false, not, ap, ap₂, arith, length, refl, slice_get, sym, take}
use Rattle.std.proofs.lemmas.Bool.{true≢false}
use Rattle.std.proofs.lemmas.Bool.Decides.{nat_tests}
use Rattle.std.proofs.lemmas.List.Folds.{list_any-append, list_any_more}
use Rattle.std.proofs.lemmas.Option.{get_or_from_slice_get, slice_get_within}
use Rattle.std.specs.Str.{bytes_eq}
use Rattle.nextest_rules.specs.Rules.{ScriptRuleUse}
use Rattle.nextest_settings.specs.Deciding.{QueryContext, rule_holds}
use Rattle.nextest_settings.specs.Platforms.{EvaluatedRule}
use Rattle.nextest_settings.specs.Queries.{is_enabled_for}
use Rattle.nextest_tables.specs.Written.{Name}
use Rattle.nextest_tree.specs.Schema.{is_one_of}

or_false : (b : Bool) → (b || false) ≡ b
or_false true = refl
or_false false = refl

and_false : (b : Bool) → (b && false) ≡ false
and_false true = refl
and_false false = refl

-- none of no ids is a script's
names_none : (ids : List Name) (id : Name) → not (length ids == 0) ≡ false → is_one_of ids id ≡ false
names_none [] id none = refl
names_none (x ∷ xs) id none =
    let some : (length (x ∷ xs) == 0) ≡ false = grind (arith, nat_tests) in
    absurd (true≢false (sym (ap not some) ∙ none))

-- a rule that is found to hold, and to name a script, holds
pub found_to_hold : (holds names : Bool) → (holds && names) ≡ true → holds ≡ true
found_to_hold true names is = refl
found_to_hold false names is = absurd cc

-- a rule that is not found to hold and to name some script does not enable one
pub found_not : (holds : Bool) (ids : List Name) (id : Name) → (holds && not (length ids == 0)) ≡ false
    → (holds && is_one_of ids id) ≡ false
found_not true ids id is = names_none ids id is
found_not false ids id is = refl

-- a rule that names no script does not enable one
pub adds_none : (holds : Bool) (ids : List Name) (id : Name) → not (length ids == 0) ≡ false
    → (holds && is_one_of ids id) ≡ false
adds_none holds ids id none = ap (λ b. holds && b) (names_none ids id none) ∙ and_false holds

module _ {M : Type 0} (query : QueryContext M) (id : Name) (rules : List (EvaluatedRule M ScriptRuleUse)) (n : ℕ)
    (rule : EvaluatedRule M ScriptRuleUse) where
  -- the rules so far enable a script, or one more does
  turn : slice_get rules n ≡ Some rule
      → is_enabled_for query (take (n + 1) rules) id
      ≡ (is_enabled_for query (take n rules) id || (rule_holds query rule && is_one_of rule.writes.scripts.setup id))
  turn stands =
      let enables : EvaluatedRule M ScriptRuleUse → Bool =
      λ r. rule_holds query r && is_one_of r.writes.scripts.setup id in
      list_any_more enables rules n rule (slice_get_within rules n rule stands)
      ∙ ap (λ r. is_enabled_for query (take n rules) id || enables r) (get_or_from_slice_get rules n rule rule stands)

  -- the scripts that the rules so far enable, with those that a rule names which holds
  pub enabled_more : slice_get rules n ≡ Some rule → (old new : List Name)
      → is_one_of old id ≡ is_enabled_for query (take n rules) id → new ≡ old ++ rule.writes.scripts.setup
      → rule_holds query rule ≡ true → is_one_of new id ≡ is_enabled_for query (take (n + 1) rules) id
  enabled_more stands old new so_far is holds =
      let setup = rule.writes.scripts.setup in
      ap (λ ids. is_one_of ids id) is ∙ list_any-append (λ name. bytes_eq name id) old setup
      ∙ ap₂ (λ a b. a || b) so_far (ap (λ b. b && is_one_of setup id) (sym holds)) ∙ sym (turn stands)

  -- the same scripts, with a rule that does not enable the script
  pub enabled_same : slice_get rules n ≡ Some rule → (old new : List Name)
      → is_one_of old id ≡ is_enabled_for query (take n rules) id → new ≡ old
      → (rule_holds query rule && is_one_of rule.writes.scripts.setup id) ≡ false
      → is_one_of new id ≡ is_enabled_for query (take (n + 1) rules) id
  enabled_same stands old new so_far is none =
      let before = is_enabled_for query (take n rules) id in
      ap (λ ids. is_one_of ids id) is ∙ so_far ∙ sym (or_false before) ∙ ap (λ b. before || b) (sym none)
      ∙ sym (turn stands)
