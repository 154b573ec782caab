-- Runs over checks that tell no warning.
use Rattle.std.proofs.Common.{◌≡◌, List, [], ◌∷◌, ◌++◌, Option, Some, None, Result, IsErrAnd, refl, sym, ap, ◌∙◌, append-nil}
use Rattle.std.specs.Option.{option_or}
use Rattle.std.proofs.lemmas.Result.{err_from_is_err_and}
use Rattle.nextest_sources.specs.Causes.{LoadCause, LoadFault}
use Rattle.nextest_sources.specs.Endings.{Ending, passed, refused, no_memory, malformed, Found, WentThrough, Ran, error_view, ending}
use Rattle.nextest_sources.specs.InputFaults.{fault_at_source}
use Rattle.nextest_sources.specs.Sources.{Source}
use Rattle.nextest_sources.specs.Steps.{LoadStep, check, first_fault, warnings_before}
use Rattle.nextest_sources.specs.Warnings.{Warning}
use Rattle.nextest_sources.specs.declared.error.ConfigParseError.{ConfigParseError}
use Rattle.nextest_sources.proofs.Runs.{ran_memory}

went : (steps : List LoadStep) (fault : Option LoadFault) (old new : List Warning) (o : Ending)
    → first_fault steps ≡ fault → warnings_before steps ≡ [] → new ≡ old
    → Found fault o → WentThrough steps old new o
went steps fault old new passed first none same h =
    (first ∙ h, same ∙ sym (append-nil old) ∙ ap (λ ws. old ++ ws) (sym none))
went steps fault old new (refused f) first none same h =
    (first ∙ h, same ∙ sym (append-nil old) ∙ ap (λ ws. old ++ ws) (sym none))
went steps fault old new no_memory first none same h = ([], (warnings_before steps, refl), same ∙ sym (append-nil old))
went steps fault old new malformed first none same h = absurd h

fault_of_two : (s : Source) (a b : Option LoadCause)
    → first_fault (check s a ∷ check s b ∷ []) ≡ option_or (fault_at_source s a) (fault_at_source s b)
fault_of_two s None None = refl
fault_of_two s None (Some b) = refl
fault_of_two s (Some a) b = refl

silent_two : (s : Source) (a b : Option LoadCause) → warnings_before (check s a ∷ check s b ∷ []) ≡ []
silent_two s None None = refl
silent_two s None (Some b) = refl
silent_two s (Some a) b = refl

-- two checks ran
pub ran_two : (s : Source) (a b : Option LoadCause) (old new : List Warning) (o : Ending) → new ≡ old
    → Found (option_or (fault_at_source s a) (fault_at_source s b)) o → Ran (check s a ∷ check s b ∷ []) old new o
ran_two s a b old new o same found =
    record { is = went (check s a ∷ check s b ∷ []) _ old new o (fault_of_two s a b) (silent_two s a b) same found }

fault_of_three : (s : Source) (a b c : Option LoadCause) → first_fault (check s a ∷ check s b ∷ check s c ∷ [])
    ≡ option_or (fault_at_source s a) (option_or (fault_at_source s b) (fault_at_source s c))
fault_of_three s None b c = fault_of_two s b c
fault_of_three s (Some a) b c = refl

silent_three : (s : Source) (a b c : Option LoadCause) → warnings_before (check s a ∷ check s b ∷ check s c ∷ []) ≡ []
silent_three s None b c = silent_two s b c
silent_three s (Some a) b c = refl

-- three checks ran
pub ran_three : (s : Source) (a b c : Option LoadCause) (old new : List Warning) (o : Ending) → new ≡ old
    → Found (option_or (fault_at_source s a) (option_or (fault_at_source s b) (fault_at_source s c))) o
    → Ran (check s a ∷ check s b ∷ check s c ∷ []) old new o
ran_three s a b c old new o same found =
    record {
      is = went (check s a ∷ check s b ∷ check s c ∷ []) _ old new o (fault_of_three s a b c)
          (silent_three s a b c) same found;
    }

-- a call for which memory ran out before any step
pub ran_failed : {T : Type 0} (steps : List LoadStep) (old new : List Warning) (r : Result T ConfigParseError)
    → IsErrAnd r (λ e. error_view e ≡ no_memory)
    → new ≡ old → Ran steps old new (ending r)
ran_failed steps old new r failed same = let p = err_from_is_err_and r failed in
    rw p.1 (ran_memory steps old new p.0 p.2 same)
