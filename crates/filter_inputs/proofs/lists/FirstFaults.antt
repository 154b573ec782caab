-- The first fault of demands, one list of them after another.
use Rattle.std.proofs.Common.{◌≡◌, List, [], ◌∷◌, ◌++◌, Option, None, Some, IfSome, refl, ap, ◌∙◌}
use Rattle.std.specs.Option.{option_or}
use Rattle.filter_inputs.specs.Lists.Demands.{Demand, Fault, fault_of, first_fault}
use Rattle.filter_inputs.specs.Lists.Faults.{fault_view, TellsFirst}
use Rattle.filter_inputs.specs.declared.lists.fault.ListFault.{ListFault}

option_or_assoc : {T : Type 0} (a b c : Option T) → option_or a (option_or b c) ≡ option_or (option_or a b) c
option_or_assoc None b c = refl
option_or_assoc (Some x) b c = refl

first_fault-append : (ds es : List Demand) → first_fault (ds ++ es) ≡ option_or (first_fault ds) (first_fault es)
first_fault-append [] es = refl
first_fault-append (d ∷ ds) es =
    ap (option_or (fault_of d)) (first_fault-append ds es)
    ∙ option_or_assoc (fault_of d) (first_fault ds) (first_fault es)

-- where no demand of a list is unmet, the first fault is that of those behind it
pub fault_behind : (ds es : List Demand) (r : Option Fault) → first_fault ds ≡ None → first_fault es ≡ r
    → first_fault (ds ++ es) ≡ r
fault_behind ds es r met is =
    first_fault-append ds es ∙ ap (λ f. option_or f (first_fault es)) met ∙ is

-- the first fault of a list of demands is that of a longer one
pub fault_before : (ds es : List Demand) (f : Fault) → first_fault ds ≡ Some f → first_fault (ds ++ es) ≡ Some f
fault_before ds es f is = first_fault-append ds es ∙ ap (λ r. option_or r (first_fault es)) is

pub if_some_weaker : {X : Type 0} (o : Option X) (P Q : X → Type 0) → ((x : X) → P x → Q x) → IfSome o P → IfSome o Q
if_some_weaker None P Q step is = is
if_some_weaker (Some x) P Q step is = step x is

-- the fault of the first demand of one list that isn't met is that of another
pub tells_first : (ds es : List Demand) (fault : ListFault)
    → ((f : Fault) → first_fault ds ≡ Some f → first_fault es ≡ Some f) → TellsFirst ds fault → TellsFirst es fault
tells_first ds es fault step is =
    if_some_weaker (fault_view fault) (λ f. first_fault ds ≡ Some f) (λ f. first_fault es ≡ Some f) step is
