-- The rule that decides something, with one rule more.
use Rattle.std.proofs.Common.{◌≡◌, Bool, true, false, Some, None, List, [], ◌∷◌, ◌++◌, refl, ◌∙◌}
use Rattle.std.proofs.lemmas.List.Folds.{find-append}
use Rattle.nextest_settings.specs.Deciding.{QueryContext, decides, winner}
use Rattle.nextest_settings.specs.Platforms.{EvaluatedRule}

module _ {M W : Type 0} (query : QueryContext M) (wants : W → Bool) where
  pub more-holds : (before : List (EvaluatedRule M W)) (r : EvaluatedRule M W)
      → winner query wants before ≡ None → decides query wants r ≡ true → winner query wants (before ++ r ∷ []) ≡ Some r
  more-holds before r none holds = find-append (decides query wants) before (r ∷ []) ∙ rw (none, holds) refl

  pub more-fails : (before : List (EvaluatedRule M W)) (r : EvaluatedRule M W)
      → winner query wants before ≡ None → decides query wants r ≡ false → winner query wants (before ++ r ∷ []) ≡ None
  more-fails before r none fails = find-append (decides query wants) before (r ∷ []) ∙ rw (none, fails) refl

  pub stays : (before rest : List (EvaluatedRule M W)) (r : EvaluatedRule M W)
      → winner query wants before ≡ Some r → winner query wants (before ++ rest) ≡ Some r
  stays before rest r some = find-append (decides query wants) before rest ∙ rw some refl
