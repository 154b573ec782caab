-- Faults, and the result of reading where one may come.
use Rattle.std.specs.Prelude.{ℕ, ◌-◌, None, Some, Result, Ok, Err}
use Rattle.platform_language.specs.declared.fault.FaultKind.{FaultKind}
use Rattle.platform_language.specs.declared.fault.Expected.{Expected}
use Rattle.platform_language.specs.declared.fault.Place.{Place}
use Rattle.platform_language.specs.declared.fault.BodyFault.{BodyFault}
use Rattle.platform_language.specs.declared.fault.TargetSpecFault.{TargetSpecFault}
use Rattle.platform_language.specs.declared.fault.Stop.{Stop}
use Rattle.platform_language.specs.declared.fault.Stop.TheVariants.{Fault, Memory}

-- where something is: so many bytes are left where it begins, and so many where it ends
abbrev pub place : ℕ → ℕ → Place
place from to = record { from = from; to = to }

-- a fault at a place
abbrev pub fault_at : FaultKind → Place → BodyFault
fault_at kind at = record { kind = kind; place = at; expected = None }

-- a fault at a place where something else may be
abbrev pub expecting_at : FaultKind → Place → Expected → BodyFault
expecting_at kind at expected = record { kind = kind; place = at; expected = Some expected }

-- the fault as it lies in a text of so many bytes, of which the last follows the body
abbrev pub in_text : ℕ → BodyFault → TargetSpecFault
in_text len fault = record {
  kind = fault.kind;
  span = record { start = len - 1 - fault.place.from; end = len - 1 - fault.place.to };
  expected = fault.expected;
}

-- the result of a further step, unless a fault came before
abbrev pub and_then : {A B E : Type 0} → (A → Result B E) → Result A E → Result B E
and_then step (Ok x) = step x
and_then step (Err fault) = Err fault

-- the result of a value, unless a fault came before
abbrev pub map_ok : {A B E : Type 0} → (A → B) → Result A E → Result B E
map_ok f (Ok x) = Ok (f x)
map_ok f (Err fault) = Err fault

-- Where reading stops at a fault, something holds of it.
abbrev pub IfFault : Stop → (BodyFault → Type 0) → Type 0
IfFault (Fault fault) P = P fault
IfFault Memory P = Unit {0}
