-- How calls end: what a refusal tells, and what two checks in a row tell.
use Rattle.std.proofs.Common.{◌≡◌, Option, Some, None, Result, IsErrAnd, refl}
use Rattle.std.specs.Option.{option_or}
use Rattle.std.proofs.lemmas.Result.{err_from_is_err_and}
use Rattle.nextest_sources.specs.Causes.{LoadCause, LoadFault}
use Rattle.nextest_sources.specs.Endings.{Ending, passed, refused, no_memory, malformed, ending_at, ending_with, error_view, ending, Found, IsRefusal, Refuses}
use Rattle.nextest_sources.specs.Errors.{cause_view, source_of}
use Rattle.nextest_sources.specs.Sources.{Source}
use Rattle.nextest_sources.specs.declared.error.ConfigParseError.{ConfigParseError}
use Rattle.nextest_sources.specs.declared.error.ConfigParseErrorKind.{ConfigParseErrorKind}
use Rattle.nextest_sources.specs.declared.error.ConfigParseErrorKind.TheVariants as kinds

refused_found : (f : LoadFault) (o : Ending) → IsRefusal (Some f) o → Found (Some f) o
refused_found f passed h = absurd h
refused_found f (refused g) h = h
refused_found f no_memory h = tt
refused_found f malformed h = absurd h

-- a refusal that tells a fault is what a check with that fault finds
pub refusal_found : (f : LoadFault) (e : ConfigParseError) → Refuses e (Some f) → Found (Some f) (error_view e)
refusal_found f e h = refused_found f (error_view e) h

-- a refusal of memory is what any check may end with
pub memory_found : (o : Option LoadFault) (e : ConfigParseError) → error_view e ≡ no_memory → Found o (error_view e)
memory_found o e h = rw h tt

not_passed_at : (source : Source) (o : Option LoadCause) → ending_at source o ≡ passed → ⊥
not_passed_at source (Some f) h = cc
not_passed_at source None h = cc

not_passed_with : (o : Option Source) (k : ConfigParseErrorKind) → ending_with o k ≡ passed → ⊥
not_passed_with (Some source) k h = not_passed_at source (cause_view k) h
not_passed_with None kinds.Memory h = cc
not_passed_with None k h = cc

-- a refusal doesn't say that a call passed
pub not_passed : (e : ConfigParseError) → error_view e ≡ passed → ⊥
unfolding error_view
not_passed e h = not_passed_with (source_of e) e.kind h

or_first : (a b : Option LoadFault) (o : Ending) → (o ≡ passed → ⊥) → Found a o → Found (option_or a b) o
or_first None b passed unpassed h = absurd (unpassed refl)
or_first (Some f) b passed unpassed h = absurd (unpassed refl)
or_first None b (refused f) unpassed h = cc
or_first (Some g) b (refused f) unpassed h = h
or_first a b no_memory unpassed h = tt
or_first a b malformed unpassed h = absurd h

-- what the first of two checks tells
pub found_first : (a b : Option LoadFault) (e : ConfigParseError) → Found a (error_view e)
    → Found (option_or a b) (error_view e)
found_first a b e h = or_first a b (error_view e) (not_passed e) h

-- what the second of two checks tells, where the first passed
pub found_next : (a b : Option LoadFault) (o : Ending) → a ≡ None → Found b o → Found (option_or a b) o
found_next a b o none h = rw none h

-- a call that hands an error on ends as the error tells
pub exit : {T : Type 0} (r : Result T ConfigParseError) (e : ConfigParseError) (o : Option LoadFault)
    → IsErrAnd r (λ x. x ≡ e) → Found o (error_view e) → Found o (ending r)
exit r e o h s = let p = err_from_is_err_and r h in rw (p.1, p.2) s
