-- Calls that run over steps: one part after another.
use Rattle.std.proofs.Common.{◌≡◌, List, [], ◌∷◌, ◌++◌, Option, Some, None, Result, IsErrAnd, refl, sym, ap, ◌∙◌, append-nil, append_assoc}
use Rattle.std.specs.Option.{option_or}
use Rattle.std.proofs.lemmas.Result.{err_from_is_err_and}
use Rattle.nextest_sources.specs.Causes.{LoadCause, LoadFault}
use Rattle.nextest_sources.specs.Endings.{Ending, passed, refused, no_memory, malformed, error_view, ending, Found, Begins, IsFollowedInPart, WentThrough, Ran}
use Rattle.nextest_sources.specs.InputFaults.{fault_at_source}
use Rattle.nextest_sources.specs.Sources.{Source}
use Rattle.nextest_sources.specs.Steps.{LoadStep, warn, check, first_fault, warnings_before}
use Rattle.nextest_sources.specs.Warnings.{Warning}
use Rattle.nextest_sources.specs.declared.error.ConfigParseError.{ConfigParseError}
use Rattle.nextest_sources.proofs.Ends.{not_passed}

-- the first fault of two lists of steps
pub first_fault-append : (xs ys : List LoadStep) → first_fault (xs ++ ys) ≡ option_or (first_fault xs) (first_fault ys)
first_fault-append [] ys = refl
first_fault-append (warn w ∷ xs) ys = first_fault-append xs ys
first_fault-append (check s None ∷ xs) ys = first_fault-append xs ys
first_fault-append (check s (Some c) ∷ xs) ys = refl

-- the warnings of two lists of steps, where the first meets no fault
pub warnings_before-append : (xs ys : List LoadStep) → first_fault xs ≡ None
    → warnings_before (xs ++ ys) ≡ warnings_before xs ++ warnings_before ys
warnings_before-append [] ys h = refl
warnings_before-append (warn w ∷ xs) ys h = ap (λ ws. w ∷ ws) (warnings_before-append xs ys h)
warnings_before-append (check s None ∷ xs) ys h = warnings_before-append xs ys h
warnings_before-append (check s (Some c) ∷ xs) ys h = cc

-- the warnings of two lists of steps, where the first meets a fault
pub warnings_before-fault : (xs ys : List LoadStep) (f : LoadFault) → first_fault xs ≡ Some f
    → warnings_before (xs ++ ys) ≡ warnings_before xs
warnings_before-fault [] ys f h = cc
warnings_before-fault (warn w ∷ xs) ys f h = ap (λ ws. w ∷ ws) (warnings_before-fault xs ys f h)
warnings_before-fault (check s None ∷ xs) ys f h = warnings_before-fault xs ys f h
warnings_before-fault (check s (Some c) ∷ xs) ys f h = refl

-- the warnings of some steps begin those of more steps
pub warnings_begin : (xs ys : List LoadStep) → Begins (warnings_before xs) (warnings_before (xs ++ ys))
warnings_begin [] ys = (warnings_before ys, refl)
warnings_begin (warn w ∷ xs) ys = let b = warnings_begin xs ys in (b.0, ap (λ ws. w ∷ ws) b.1)
warnings_begin (check s None ∷ xs) ys = warnings_begin xs ys
warnings_begin (check s (Some c) ∷ xs) ys = ([], refl)

in_part : (old new ws vs : List Warning) → IsFollowedInPart old new ws → Begins ws vs → IsFollowedInPart old new vs
in_part old new ws vs part more = (
  part.0,
  (
    part.1.0 ++ more.0,
    more.1 ∙ ap (λ us. us ++ more.0) part.1.1
        ∙ append_assoc part.0 part.1.0 more.0,
  ),
  part.2,
)

first_at : (xs ys : List LoadStep) (old new : List Warning) (o : Ending) → (o ≡ passed → ⊥)
    → WentThrough xs old new o → WentThrough (xs ++ ys) old new o
first_at xs ys old new passed unpassed h = absurd (unpassed refl)
first_at xs ys old new (refused f) unpassed h = (
  first_fault-append xs ys ∙ ap (λ o. option_or o (first_fault ys)) h.0,
  h.1
      ∙ ap (λ ws. old ++ ws) (sym (warnings_before-fault xs ys f h.0)),
)
first_at xs ys old new no_memory unpassed h =
    in_part old new (warnings_before xs) (warnings_before (xs ++ ys)) h (warnings_begin xs ys)
first_at xs ys old new malformed unpassed h = absurd h

next_at : (xs ys : List LoadStep) (old mid new : List Warning) (o : Ending) → first_fault xs ≡ None
    → mid ≡ old ++ warnings_before xs → WentThrough ys mid new o → WentThrough (xs ++ ys) old new o
next_at xs ys old mid new passed none is h = (
  first_fault-append xs ys ∙ ap (λ o. option_or o (first_fault ys)) none ∙ h.0,
  h.1 ∙ ap (λ ws. ws ++ warnings_before ys) is ∙ append_assoc old (warnings_before xs) (warnings_before ys)
      ∙ ap (λ ws. old ++ ws) (sym (warnings_before-append xs ys none)),
)
next_at xs ys old mid new (refused f) none is h = (
  first_fault-append xs ys ∙ ap (λ o. option_or o (first_fault ys)) none ∙ h.0,
  h.1 ∙ ap (λ ws. ws ++ warnings_before ys) is ∙ append_assoc old (warnings_before xs) (warnings_before ys)
      ∙ ap (λ ws. old ++ ws) (sym (warnings_before-append xs ys none)),
)
next_at xs ys old mid new no_memory none is h = (
  warnings_before xs ++ h.0,
  (
    h.1.0,
    warnings_before-append xs ys none ∙ ap (λ ws. warnings_before xs ++ ws) h.1.1
        ∙ sym (append_assoc (warnings_before xs) h.0 h.1.0),
  ),
  h.2 ∙ ap (λ ws. ws ++ h.0) is ∙ append_assoc old (warnings_before xs) h.0,
)
next_at xs ys old mid new malformed none is h = absurd h

-- no step, and nothing more told
pub ran_none : (old new : List Warning) → new ≡ old → Ran [] old new passed
ran_none old new same = record { is = (refl, same ∙ sym (append-nil old)) }

-- some steps ended a call, before others
pub ran_first : (xs ys : List LoadStep) (old new : List Warning) (e : ConfigParseError)
    → Ran xs old new (error_view e) → Ran (xs ++ ys) old new (error_view e)
ran_first xs ys old new e ran = record { is = first_at xs ys old new (error_view e) (not_passed e) ran.is }

-- some steps passed, and then others ran
pub ran_next : (xs ys : List LoadStep) (old mid new : List Warning) (o : Ending) → Ran xs old mid passed
    → Ran ys mid new o → Ran (xs ++ ys) old new o
ran_next xs ys old mid new o first next = record { is = next_at xs ys old mid new o first.is.0 first.is.1 next.is }

check_at : (s : Source) (c : Option LoadCause) (old new : List Warning) (o : Ending) → new ≡ old
    → Found (fault_at_source s c) o → WentThrough (check s c ∷ []) old new o
check_at s None old new passed same h = (refl, same ∙ sym (append-nil old))
check_at s (Some c) old new passed same h = cc
check_at s None old new (refused f) same h = cc
check_at s (Some c) old new (refused f) same h = (h, same ∙ sym (append-nil old))
check_at s None old new no_memory same h = ([], ([], refl), same ∙ sym (append-nil old))
check_at s (Some c) old new no_memory same h = ([], ([], refl), same ∙ sym (append-nil old))
check_at s c old new malformed same h = absurd h

-- a check ran, and reported nothing
pub ran_check : (s : Source) (c : Option LoadCause) (old new : List Warning) (o : Ending) → new ≡ old
    → Found (fault_at_source s c) o → Ran (check s c ∷ []) old new o
ran_check s c old new o same found = record { is = check_at s c old new o same found }

-- a warning was reported
pub ran_warned : (w : Warning) (old new : List Warning) → new ≡ old ++ w ∷ [] → Ran (warn w ∷ []) old new passed
ran_warned w old new is = record { is = (refl, is) }

-- memory ran out before any step
pub ran_memory : (xs : List LoadStep) (old new : List Warning) (e : ConfigParseError)
    → error_view e ≡ no_memory → new ≡ old → Ran xs old new (error_view e)
ran_memory xs old new e memory same =
    let none : Ran xs old new no_memory =
    record { is = ([], (warnings_before xs, refl), same ∙ sym (append-nil old)) } in
    rw memory none

-- a call that hands an error on ends as the error tells
pub ran_exit : {T : Type 0} (xs : List LoadStep) (old new : List Warning) (r : Result T ConfigParseError)
    (e : ConfigParseError) → IsErrAnd r (λ x. x ≡ e) → Ran xs old new (error_view e) → Ran xs old new (ending r)
ran_exit xs old new r e h ran = let p = err_from_is_err_and r h in rw (p.1, p.2) ran
