-- Findings of several things, one of each.
use Rattle.std.proofs.Common.{◌≡◌, ◌<◌, ◌≤◌, ◌+◌, ℕ, List, [], ◌∷◌, ◌++◌, length, map, take, get_or, sym, ap, ◌∙◌, subst}
use Rattle.std.proofs.lemmas.List.{map-append, take_all, take_more}
use Rattle.rinqebo_report.specs.declared.finding.Finding.{Finding}
use Rattle.rinqebo_findings.specs.Each.{AreOfEach}

-- what there is up to one more
pub taken : {A : Type 0} (xs : List A) (place : ℕ) (x : A) → place < length xs → x ≡ get_or xs place x
    → take (place + 1) xs ≡ take place xs ++ x ∷ []
taken xs place x within is = take_more xs place x within ∙ ap (λ y. take place xs ++ y ∷ []) (sym is)

module _ {X : Type 0} (IsOf : X → Finding → Type 0) where
  -- findings of some things, and then of others
  pub of_both : (xs ys : List X) (found more : List Finding)
      → AreOfEach IsOf xs found → AreOfEach IsOf ys more → AreOfEach IsOf (xs ++ ys) (found ++ more)
  of_both [] ys [] more h k = k
  of_both [] ys (finding ∷ found) more h k = absurd h
  of_both (x ∷ xs) ys [] more h k = absurd h
  of_both (x ∷ xs) ys (finding ∷ found) more h k = (h.0, of_both xs ys found more h.1 k)

  -- the findings of what is made of some things, up to one more
  pub of_next : {Y : Type 0} (v : Y → X) (ys : List Y) (place : ℕ) (y : Y) (found all : List Finding)
      (finding : Finding) → place < length ys → y ≡ get_or ys place y → all ≡ found ++ finding ∷ []
      → IsOf (v y) finding → AreOfEach IsOf (map v (take place ys)) found
      → AreOfEach IsOf (map v (take (place + 1) ys)) all
  of_next v ys place y found all finding within is whole here before =
      subst (λ xs. AreOfEach IsOf xs all)
      (sym (ap (map v) (taken ys place y within is) ∙ map-append v (take place ys) (y ∷ [])))
      (subst (AreOfEach IsOf (map v (take place ys) ++ v y ∷ [])) (sym whole)
      (of_both (map v (take place ys)) (v y ∷ []) found (finding ∷ []) before (here, tt)))

  -- the findings of all
  pub of_all : {Y : Type 0} (v : Y → X) (ys : List Y) (place : ℕ) (found : List Finding)
      → length ys ≤ place → AreOfEach IsOf (map v (take place ys)) found → AreOfEach IsOf (map v ys) found
  of_all v ys place found no_more are =
      subst (λ xs. AreOfEach IsOf (map v xs) found) (take_all place ys no_more) are
