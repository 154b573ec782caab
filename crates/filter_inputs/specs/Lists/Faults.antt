-- What faults report.
use Rattle.std.specs.Prelude.{◌≡◌, List, Option, None, Some, IfSome, Result, Ok, Err, MatchResult, string_bytes}
use Rattle.filter_inputs.specs.Fields.Fields.{found_at}
use Rattle.filter_inputs.specs.declared.fields.field.JsonField.{JsonField}
use Rattle.filter_inputs.specs.declared.fields.field.Misfit.{Misfit}
use Rattle.filter_inputs.specs.declared.fields.kind.Wanted.{Wanted}
use Rattle.filter_inputs.specs.Lists.Demands.{Demand, of_kind, Fault, not_json, misfit, unknown_platform, fault_of, first_fault, place_text}
use Rattle.filter_inputs.specs.declared.lists.fault.ListFault.{ListFault}
use Rattle.filter_inputs.specs.declared.lists.fault.ListFault.TheVariants as faults
use Rattle.filter_inputs.specs.declared.lists.place.Place.{Place}

-- the fault that is reported, unless it is a failed allocation
abbrev pub fault_view : ListFault → Option Fault
fault_view (faults.NotJson line column) = Some not_json
fault_view (faults.Misfit m) = Some (misfit (string_bytes m.place) m.wanted m.given)
fault_view (faults.UnknownPlatform place given) =
    Some (unknown_platform (string_bytes place) (string_bytes given))
fault_view faults.Memory = None

-- a demand isn't met, and this is its fault, unless an allocation failed
abbrev pub Tells : Demand → ListFault → Type 0
Tells demand fault = IfSome (fault_view fault) (λ f. fault_of demand ≡ Some f)

-- this is the fault of the first demand that isn't met, unless an allocation failed
abbrev pub TellsFirst : List Demand → ListFault → Type 0
TellsFirst demands fault = IfSome (fault_view fault) (λ f. first_fault demands ≡ Some f)

-- a value of a type is demanded at the path of a field
abbrev pub demand_at : JsonField Place → Wanted → Demand
demand_at field kind = record {
  place = place_text field.place;
  found = found_at field;
  expected = of_kind kind;
}

-- the fault of a misfit
abbrev pub misfit_fault : Misfit Place → Fault
misfit_fault m = misfit (place_text m.place) m.wanted m.given

-- a value is returned as it is, and a misfit as its fault, unless an allocation failed
abbrev pub IsRead : {A : Type 0} → Result A (Misfit Place) → Result A ListFault → Type 0
IsRead (Ok value) result = result ≡ Ok value
IsRead (Err m) result = MatchResult result (λ _. ⊥)
    (λ fault. IfSome (fault_view fault) (λ f. f ≡ misfit_fault m))
