-- Faults that are joined, and their paths.
use Rattle.std.proofs.Common.{◌≡◌, ◌≢◌, ◌<◌, ◌≤◌, ◌⊎◌, ℕ, List, [], ◌∷◌, ◌++◌, ◌+◌, Bool, true, false, Some, length, take, get_or, set, map, replicate, slice_get, inl, inr, sym, ap, ◌∙◌, subst, arith}
use Rattle.std.proofs.lemmas.Bool.{cases_lt}
use Rattle.std.proofs.lemmas.List.{get_or_past, get_or-replicate, get_or-set_other, length-replicate, map-append, take_all, take_more}
use Rattle.nextest_places.specs.declared.step.Step.{Step}
use Rattle.nextest_places.specs.Spans.Paths.{path_step}
use Rattle.nextest_places.specs.Spans.Paths as paths
use Rattle.rinqebo_checks.specs.declared.value_faults.ValueFault.{ValueFault}
use Rattle.rinqebo_checks.specs.Faults.{AreJoined, IsJoined, IsKeyIn}

-- one more step of a path
front : (xs : List Step) (place : ℕ) (d : Step) → place < length xs
    → map path_step (take (place + 1) xs) ≡ map path_step (take place xs) ++ path_step (get_or xs place d) ∷ []
front xs place d within =
    ap (map path_step) (take_more xs place d within) ∙ map-append path_step (take place xs) (get_or xs place d ∷ [])

-- paths that are the same up to a step, and at the step
pub steps_more : (xs ys : List Step) (place : ℕ) (d e : Step) → place < length xs → place < length ys
    → path_step (get_or xs place d) ≡ path_step (get_or ys place e)
    → map path_step (take place xs) ≡ map path_step (take place ys)
    → map path_step (take (place + 1) xs) ≡ map path_step (take (place + 1) ys)
steps_more xs ys place d e within within' step same =
    front xs place d within ∙ ap (λ steps. steps ++ path_step (get_or xs place d) ∷ []) same
    ∙ ap (λ s. map path_step (take place ys) ++ s ∷ []) step ∙ sym (front ys place e within')

-- paths that are the same up to their ends
pub steps_all : (xs ys : List Step) (place : ℕ) → length xs ≤ place → length ys ≤ place
    → map path_step (take place xs) ≡ map path_step (take place ys) → map path_step xs ≡ map path_step ys
steps_all xs ys place no_more no_more' same =
    ap (map path_step) (sym (take_all place xs no_more)) ∙ same ∙ ap (map path_step) (take_all place ys no_more')

-- a path whose last step is to a key, behind that of a table
pub key_in : (path rest table : List Step) (last : Step) (key : List ℕ) → path ≡ rest ++ last ∷ []
    → path_step last ≡ paths.key key → map path_step rest ≡ map path_step table → IsKeyIn path table key
key_in path rest table last key whole to_key same =
    ap (map path_step) whole ∙ map-append path_step rest (last ∷ [])
    ∙ ap (λ steps. steps ++ path_step last ∷ []) same ∙ ap (λ s. map path_step table ++ s ∷ []) to_key

same_value : {A : Type 0} (x y : A) → Some x ≡ Some y → x ≡ y
same_value x y e = cc

both : {b : Bool} → b ≡ false → b ≡ true → ⊥
both unset is_set = cc

-- what is at a place is what was read there
pub read_again : (Holds : ValueFault → Type 0) (faults : List ValueFault) (place : ℕ) (fault : ValueFault)
    → slice_get faults place ≡ Some fault → Holds fault
    → (other : ValueFault) → slice_get faults place ≡ Some other → Holds other
read_again Holds faults place fault is holds other other_is =
    subst Holds (same_value fault other (sym is ∙ other_is)) holds

none_set : (count place : ℕ) → get_or (replicate count false) place false ≡ false
none_set count place =
    elim (cases_lt place count) [
      | inl within ↦ get_or-replicate count place false false within
      | inr past ↦ get_or_past (replicate count false) place false (omega (arith, length-replicate count false))
    ]

-- no mark is set
pub none_joined : (faults : List ValueFault) (count : ℕ) → AreJoined faults (replicate count false)
none_joined faults count place fault is_set is = absurd (both (none_set count place) is_set)

same_or_not : (m n : ℕ) → (m ≡ n) ⊎ (m ≢ n)
same_or_not m n =
    elim (cases_lt m n) [
      | inl less ↦ inr (λ same. omega arith)
      | inr no_less ↦ elim (cases_lt n m) [
        | inl more ↦ inr (λ same. omega arith)
        | inr no_more ↦ inl (omega arith)
      ]
    ]

-- one more mark is set
pub one_joined : (faults : List ValueFault) (marks : List Bool) (joined : ℕ)
    → ((fault : ValueFault) → slice_get faults joined ≡ Some fault → IsJoined faults fault)
    → AreJoined faults marks → AreJoined faults (set marks joined true)
one_joined faults marks joined of_joined are place fault is_set is =
    elim (same_or_not place joined) [
      | inl same ↦ of_joined fault (subst (λ k. slice_get faults k ≡ Some fault) same is)
      | inr other ↦ are place fault (sym (get_or-set_other marks joined place true false other) ∙ is_set) is
    ]
