-- The parents of the merged tree's profiles.
use Rattle.std.proofs.Common.{◌≡◌, ℕ, List, [], ◌∷◌, map, Some, None, String, Global, refl}
use Rattle.std.specs.BTreeSet.{BTreeSet, contains_text}
use Rattle.nextest_rules.specs.Steps.{if_some}
use Rattle.nextest_sources.specs.Causes.{LoadCause, at_source}
use Rattle.nextest_sources.specs.Endings.{error_view, Found, Refuses}
use Rattle.nextest_sources.specs.InputFaults.{fault_at_source}
use Rattle.nextest_sources.specs.Sources.{Source}
use Rattle.nextest_sources.specs.declared.error.ConfigParseError.{ConfigParseError}
use Rattle.nextest_sources.proofs.Ends.{refusal_found}
use Rattle.nextest_load.specs.Steps.{no_profiles}

none_at : (names : BTreeSet (String Global)) → names.keys ≡ [] → (name : List ℕ)
    → contains_text names name ≡ no_profiles name
none_at names none name = rw none refl

-- an empty set has no name
pub empty_set : (names : BTreeSet (String Global)) → names.keys ≡ [] → contains_text names ≡ no_profiles
empty_set names none = λ i name. none_at names none name i

-- all that was found is one refusal, where something was
pub all_refused : {X Y : Type 0} (see : X → Y) (cause : List Y → LoadCause) (source : Source) (xs : List X)
    (e : ConfigParseError) → (xs ≡ [] → ⊥) → Refuses e (Some (at_source source (cause (map see xs))))
    → Found (fault_at_source source (if_some cause (map see xs))) (error_view e)
all_refused see cause source [] e some h = absurd (some refl)
all_refused see cause source (x ∷ xs) e some h = refusal_found (at_source source (cause (map see (x ∷ xs)))) e h

-- where nothing was found there is no fault
pub none_refused : {X Y : Type 0} (see : X → Y) (cause : List Y → LoadCause) (source : Source) (xs : List X)
    → xs ≡ [] → fault_at_source source (if_some cause (map see xs)) ≡ None
none_refused see cause source xs h = rw h refl
