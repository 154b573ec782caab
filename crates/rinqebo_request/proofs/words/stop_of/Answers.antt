use Rattle.std.proofs.Common.{◌∙◌, refl, subst, sym}
use Rattle.rinqebo_request.specs.Stops.{IsStopFor}
use Rattle.rinqebo_request.specs.declared.words.ParseStop.TheVariants as stops
use Rattle.rinqebo_request.proofs.words.stop_of.Goals as goal

pub returns-in-OutOfMemory : goal.returns-in-OutOfMemory
returns-in-OutOfMemory c = subst (λ kind. IsStopFor kind stops.Memory) (sym c.in-OutOfMemory.is ∙ c.kind.ensures) refl

pub returns-in_ok-to_string-in_default : goal.returns-in_ok-to_string-in_default
returns-in_ok-to_string-in_default c =
    subst (λ kind. IsStopFor kind c.stop_with.result) c.kind.ensures (c.stop_with.ensures c.in_default.not-OutOfMemory)
