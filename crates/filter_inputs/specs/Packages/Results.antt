-- Sequences of results: the first error is the result.
use Rattle.std.specs.Prelude.{◌≡◌, ◌≢◌, ℕ, List, [], ◌∷◌, map, Result, Ok, Err, MatchResult}
use Rattle.std.specs.List.{enumerate_from}
use Rattle.filter_inputs.specs.declared.packages.fault.MetadataFault.{MetadataFault}
use Rattle.filter_inputs.specs.declared.packages.fault.MetadataFault.TheVariants.{Memory}

-- what a function returns for the value of a result, or its error
abbrev pub and_then : {A B E : Type 0} → Result A E → (A → Result B E) → Result B E
and_then (Ok a) f = f a
and_then (Err e) f = Err e

-- the values of all results, or the first error
unfoldable pub gathered : {A E : Type 0} → List (Result A E) → Result (List A) E
gathered [] = Ok []
gathered (r ∷ rs) = and_then r (λ a. and_then (gathered rs) (λ rest. Ok (a ∷ rest)))

-- what a function returns for each element and its index, or the first error
abbrev pub each : {A B E : Type 0} → (ℕ → A → Result B E) → List A → Result (List B) E
each f xs = gathered (map (λ p. f p.0 p.1) (enumerate_from 0 xs))

-- A value that is returned is, seen in this way, the expected one; an error is the expected one,
-- unless an allocation failed.
abbrev pub Reads : {A B : Type 0} → (A → B) → Result A MetadataFault → Result B MetadataFault
    → Type 0
Reads seen result expected =
    MatchResult result (λ a. expected ≡ Ok (seen a)) (λ e. e ≢ Memory → expected ≡ Err e)
