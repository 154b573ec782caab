-- Reading a part of a request.
use Rattle.std.specs.Prelude.{◌≡◌, ◌≢◌, Option, None, Some, Result, MatchResult}
use Rattle.rinqebo_forms.specs.declared.fault.RequestFault.{RequestFault}
use Rattle.rinqebo_forms.specs.declared.fault.RequestFault.TheVariants.{Memory}

-- A value that is returned is, seen in this way, the expected one; an error is returned only if
-- there is no expected value, unless an allocation failed.
abbrev pub Reads : {A B : Type 0} → (A → B) → Result A RequestFault → Option B → Type 0
Reads seen result expected =
    MatchResult result (λ a. expected ≡ Some (seen a)) (λ e. e ≢ Memory → expected ≡ None)
