-- What overrides write, where one of them goes or one more comes.
use Rattle.std.proofs.Common.{◌≡◌, ◌⊎◌, inl, inr, ◌∙◌, List, [], ◌∷◌, ◌++◌, ◌&&◌, Bool, true, false, cond, find, Option, None, Some, IsSome, is_some, option_and_then, option_map, refl, ap}
use Rattle.std.specs.Option.{option_or}
use Rattle.nextest_elements.specs.declared.run_mode.NextestRunMode.{NextestRunMode}
use Rattle.nextest_rules.specs.Rules.{OverrideUse, ScriptRuleUse}
use Rattle.nextest_tables.specs.Written.{WrittenFields}
use Rattle.nextest_settings.specs.Deciding.{QueryContext, decides, rule_holds, winner}
use Rattle.nextest_settings.specs.Platforms.{EvaluatedRule}
use Rattle.nextest_settings.specs.Queries.{written_value, written_origin, value_by, origin_by, by_override, fallback_origin, deciding_override}
use Rattle.nextest_settings.specs.Settings.{sets, is_set, fallback_of}
use Rattle.nextest_elements.specs.declared.setting.Setting.{Setting}
use Rattle.nextest_elements.specs.declared.setting.Setting.TheVariants as at
use Rattle.nextest_settings.proofs.Winner.{more-holds, more-fails, stays}

-- what fails a test is not found
found_without : {X : Type 0} (passes : X → Bool) (xs : List X) (x : X) (ys : List X) → passes x ≡ false
    → find passes (xs ++ x ∷ ys) ≡ find passes (xs ++ ys)
found_without passes [] x ys fails = ap (λ b. cond b (Some x) (find passes ys)) fails
found_without passes (y ∷ xs) x ys fails = ap (cond (passes y) (Some y)) (found_without passes xs x ys fails)

module _ {M W : Type 0} (query : QueryContext M) (wants : W → Bool) where
  -- a rule that does not hold decides nothing
  pub winner_without : (before : List (EvaluatedRule M W)) (r : EvaluatedRule M W)
      (after : List (EvaluatedRule M W)) → rule_holds query r ≡ false
      → winner query wants (before ++ r ∷ after) ≡ winner query wants (before ++ after)
  winner_without before r after fails =
      found_without (decides query wants) before r after (ap (λ b. b && wants r.writes) fails)

  by_winner : (before : List (EvaluatedRule M W)) (r : EvaluatedRule M W) (o : Option (EvaluatedRule M W))
      → winner query wants before ≡ o → IsSome o ⊎ (decides query wants r ≡ false)
      → winner query wants (before ++ r ∷ []) ≡ o
  by_winner before r (Some d) is h = stays query wants before (r ∷ []) d is
  by_winner before r None is (inl some) = absurd cc
  by_winner before r None is (inr fails) = more-fails query wants before r is fails

  -- one more rule decides nothing that another one decides, or that it does not write
  pub winner_before : (before : List (EvaluatedRule M W)) (r : EvaluatedRule M W)
      → IsSome (winner query wants before) ⊎ (decides query wants r ≡ false)
      → winner query wants (before ++ r ∷ []) ≡ winner query wants before
  winner_before before r h = by_winner before r (winner query wants before) refl h

or_some : {X : Type 0} (o r : Option X) → is_some o ≡ true → option_or o r ≡ o
or_some None r h = absurd cc
or_some (Some x) r h = refl

second : (a b : Bool) → (a && b) ≡ true → b ≡ true
second true b h = h
second false b h = absurd cc

-- where the same override decides a setting, the same is written for it
module _ {M : Type 0} (query : QueryContext M) (mode : NextestRunMode)
    (xs ys : List (EvaluatedRule M (OverrideUse M))) (rules : List (EvaluatedRule M ScriptRuleUse)) where
  pub value_same : (s : Setting) → deciding_override query mode xs s ≡ deciding_override query mode ys s
      → written_value query mode xs rules s ≡ written_value query mode ys rules s
  value_same at.RunWrapper same = refl
  value_same s same = ap (option_and_then (λ r. sets r.writes.settings mode s)) same

  pub origin_same : (s : Setting) → deciding_override query mode xs s ≡ deciding_override query mode ys s
      → written_origin query mode xs rules s ≡ written_origin query mode ys rules s
  origin_same at.RunWrapper same = refl
  origin_same s same = ap (option_map (λ r. by_override r.writes.id)) same

-- what one more override decides is what it writes
module _ {M : Type 0} (query : QueryContext M) (mode : NextestRunMode)
    (before : List (EvaluatedRule M (OverrideUse M))) (r : EvaluatedRule M (OverrideUse M))
    (rules : List (EvaluatedRule M ScriptRuleUse)) (fields : List WrittenFields) where
  pub value_taken : (s : Setting) → deciding_override query mode before s ≡ None
      → decides query (λ w. is_set w.settings mode s) r ≡ true
      → value_by query mode (before ++ r ∷ []) rules fields s ≡ sets r.writes.settings mode s
  value_taken at.RunWrapper none takes = let bad : false ≡ true = second (rule_holds query r) false takes in absurd cc
  value_taken s none takes =
      ap (λ o. option_or (option_and_then
      (λ (d : EvaluatedRule M (OverrideUse M)). sets d.writes.settings mode s) o)
      (fallback_of fields mode s)) (more-holds query (λ w. is_set w.settings mode s) before r none takes)
      ∙ or_some (sets r.writes.settings mode s) (fallback_of fields mode s)
      (second (rule_holds query r) (is_set r.writes.settings mode s) takes)

  pub origin_taken : (s : Setting) → deciding_override query mode before s ≡ None
      → decides query (λ w. is_set w.settings mode s) r ≡ true
      → origin_by query mode (before ++ r ∷ []) rules s ≡ Some (by_override r.writes.id)
  origin_taken at.RunWrapper none takes = let bad : false ≡ true = second (rule_holds query r) false takes in absurd cc
  origin_taken s none takes =
      ap (λ o. option_or (option_map (λ (d : EvaluatedRule M (OverrideUse M)). by_override d.writes.id) o)
      (fallback_origin s)) (more-holds query (λ w. is_set w.settings mode s) before r none takes)
