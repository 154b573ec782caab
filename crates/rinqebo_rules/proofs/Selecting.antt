-- The rules that hold for none of some tests.
use Rattle.std.proofs.Common.{◌≡◌, zero, suc, List, [], ◌∷◌, Bool, true, false, ◌||◌, not, cond, refl, sym, ap, ◌∙◌, true≢false}
use Rattle.nextest_settings.specs.Deciding.{QueryContext, rule_holds}
use Rattle.nextest_settings.specs.Platforms.{EvaluatedRule}
use Rattle.rinqebo_rules.specs.Selections.{IsSelection, nothing, taken, left_out}
use Rattle.rinqebo_rules.specs.Unused.{HoldsForNone, is_used, unused_among}

neither_left : (a b : Bool) → (a || b) ≡ false → a ≡ false
neither_left true b e = e
neither_left false b e = refl

neither_right : (a b : Bool) → (a || b) ≡ false → b ≡ false
neither_right true b e = absurd (true≢false e)
neither_right false b e = e

module _ {M W : Type 0} where
  holds_for_none : (tests : List (QueryContext M)) (rule : EvaluatedRule M W) → is_used tests rule ≡ false
      → HoldsForNone tests rule
  holds_for_none [] rule e n test at = absurd cc
  holds_for_none (first ∷ tests) rule e zero test at =
      let same : first ≡ test = cc in
      ap (λ t. rule_holds t rule) (sym same) ∙ neither_left (rule_holds first rule) (is_used tests rule) e
  holds_for_none (first ∷ tests) rule e (suc n) test at =
      holds_for_none tests rule (neither_right (rule_holds first rule) (is_used tests rule) e) n test at

  none_used : (tests : List (QueryContext M)) (rule : EvaluatedRule M W) → HoldsForNone tests rule
      → is_used tests rule ≡ false
  none_used [] rule none = refl
  none_used (first ∷ tests) rule none =
      ap (λ b. b || is_used tests rule) (none zero first refl)
      ∙ none_used tests rule (λ n test at. none (suc n) test at)

  selected_one : (tests : List (QueryContext M)) (rule : EvaluatedRule M W) (rules rest : List (EvaluatedRule M W))
      (used : Bool) → is_used tests rule ≡ used → IsSelection (HoldsForNone tests) rules rest
      → IsSelection (HoldsForNone tests) (rule ∷ rules) (cond (not used) (rule ∷ rest) rest)
  selected_one tests rule rules rest true is more =
      left_out rule rules rest (λ none. true≢false (sym is ∙ none_used tests rule none)) more
  selected_one tests rule rules rest false is more = taken rule rules rest (holds_for_none tests rule is) more

  pub unused_selected : (tests : List (QueryContext M)) (rules : List (EvaluatedRule M W))
      → IsSelection (HoldsForNone tests) rules (unused_among tests rules)
  unused_selected tests [] = nothing
  unused_selected tests (rule ∷ rules) =
      selected_one tests rule rules (unused_among tests rules) (is_used tests rule) refl (unused_selected tests rules)
