-- What refusals tell.
use Rattle.std.proofs.Common.{◌≡◌, ◌==◌, List, [], ◌∷◌, map, length, Bool, true, false, refl, Vec, vec_len, Global, eq-eqb, arith, Option, Some, None, option_map, sym, ◌∙◌, subst}
use Rattle.std.proofs.lemmas.Bool.{false≢true, eqb-true}
use Rattle.nextest_sources.specs.Causes.{LoadCause, at_source}
use Rattle.nextest_sources.specs.Endings.{error_view, Found, Refuses}
use Rattle.nextest_sources.specs.Errors.{cause_view}
use Rattle.nextest_sources.specs.InputFaults.{fault_at_source}
use Rattle.nextest_sources.specs.Sources.{Source}
use Rattle.nextest_sources.specs.declared.error.ConfigParseError.{ConfigParseError}
use Rattle.nextest_sources.specs.declared.error.ConfigParseErrorKind.{ConfigParseErrorKind}
use Rattle.nextest_rules.specs.Steps.{if_some}
use Rattle.nextest_sources.proofs.Ends.{refusal_found}

-- a refusal of a cause is what a check finds that finds it
pub told_at : (source : Source) (found : Option LoadCause) (cause : LoadCause) (e : ConfigParseError)
    → found ≡ Some cause → Refuses e (Some (at_source source cause))
    → Found (fault_at_source source found) (error_view e)
told_at source found cause e is refuses =
    subst (λ c. Found (fault_at_source source c) (error_view e)) (sym is)
    (refusal_found (at_source source cause) e refuses)

-- the same of a kind that tells the cause
pub told : (source : Source) (found : Option LoadCause) (cause : LoadCause) (kind : ConfigParseErrorKind)
    (e : ConfigParseError)
    → found ≡ Some cause → cause_view kind ≡ Some cause → Refuses e (option_map (at_source source) (cause_view kind))
    → Found (fault_at_source source found) (error_view e)
told source found cause kind e is says refuses =
    told_at source found cause e is (subst (λ c. Refuses e (option_map (at_source source) c)) says refuses)

-- a list of no elements
pub none_left : {X : Type 0} (xs : List X) → length xs ≡ 0 → xs ≡ []
none_left [] h = refl
none_left (x ∷ xs) h = absurd (omega arith)

-- a list that was found tells nothing where it is empty
pub listed_none : {X Y : Type 0} (cause : List Y → LoadCause) (see : X → Y) (v : Vec X Global) (ys : List Y)
    {b : Bool} → map see v.items ≡ ys
    → b ≡ (vec_len v == 0) → b ≡ true → if_some cause ys ≡ None
listed_none cause see v ys seen empty is =
    let none : v.items ≡ [] = none_left v.items (sym v.ok.0 ∙ eqb-true (vec_len v) 0 (sym empty ∙ is)) in
    rw (← seen, none) refl

some_listed : {X Y : Type 0} (cause : List Y → LoadCause) (see : X → Y) (xs : List X) → (length xs ≡ 0 → ⊥)
    → if_some cause (map see xs) ≡ Some (cause (map see xs))
some_listed cause see [] some = absurd (some refl)
some_listed cause see (x ∷ xs) some = refl

-- and else all of it
pub listed_some : {X Y : Type 0} (cause : List Y → LoadCause) (see : X → Y) (v : Vec X Global) (ys : List Y)
    {b : Bool} → map see v.items ≡ ys
    → b ≡ (vec_len v == 0) → b ≡ false → if_some cause ys ≡ Some (cause (map see v.items))
listed_some cause see v ys seen empty is =
    rw (← seen) (some_listed cause see v.items
    (λ none. false≢true (sym is ∙ empty ∙ eq-eqb (vec_len v) 0 (v.ok.0 ∙ none))))
