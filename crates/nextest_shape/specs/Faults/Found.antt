-- Faults that are found, as contracts see them.
use Rattle.std.specs.Prelude.{◌≡◌, ℕ, List, [], ◌++◌, fold, map, Option, None, Some, option_map, string_bytes}
use Rattle.std.specs.Fmt.{decimal}
use Rattle.nextest_places.specs.declared.step.Step.{Step}
use Rattle.nextest_places.specs.declared.step.Step.TheVariants as steps
use Rattle.nextest_tree.specs.declared.fault.ElementCause.{ElementCause}
use Rattle.nextest_tree.specs.declared.fault.ElementCause.TheVariants as causes
use Rattle.nextest_tree.specs.Schema.{Fault, FaultCause, wrong_kind, missing, bad_value, out_of_range, unknown_field, below}
use Rattle.nextest_shape.specs.declared.faults.found.FoundFault.{FoundFault}

-- the cause of the definitions: a refusal of memory has none
abbrev pub cause_view : ElementCause → Option FaultCause
cause_view causes.WrongKind = Some wrong_kind
cause_view (causes.Missing k) = Some (missing (string_bytes k))
cause_view (causes.BadValue given expected) =
    Some (bad_value (string_bytes given) expected.now)
cause_view causes.OutOfRange = Some out_of_range
cause_view causes.UnknownField = Some unknown_field
cause_view causes.Memory = None

-- a cause is one of the definitions
abbrev pub IsSeen : ElementCause → Type 0
IsSeen causes.Memory = ⊥
IsSeen _ = Unit {0}

-- a cause is this one of the definitions
pub record Sees (c : Option FaultCause) (spec : Option FaultCause) : Type 0 where
  pub cause : FaultCause
  pub seen : c ≡ Some cause
  pub meant : spec ≡ Some cause

-- there is a cause exactly if the definitions have one, and it is theirs
abbrev pub IsCause : Option ElementCause → Option FaultCause → Type 0
IsCause None spec = spec ≡ None
IsCause (Some c) spec = Sees (cause_view c) spec

-- a step as a path spells it
abbrev pub step_text : Step → List ℕ
step_text (steps.Key key) = key.now
step_text (steps.Position n) = decimal n

-- steps as a path spells them
abbrev pub path_text : List Step → List ℕ
path_text path = fold (λ p step. below p (step_text step)) [] path

-- the fault of the definitions that one which is found is
abbrev pub found_view : FoundFault → Option Fault
found_view f =
    option_map
    (λ c. let fault : Fault = record { path = path_text f.path.items; cause = c } in fault)
    (cause_view f.cause)

-- exactly these faults of the definitions were added
abbrev pub Adds : List FoundFault → List FoundFault → List Fault → Type 0
Adds old new faults = map found_view new ≡ map found_view old ++ map (λ f. Some f) faults

-- unknown keys at paths, each as the fault of a table that refuses it
abbrev pub refused_at : List (List ℕ) → List Fault
refused_at paths = map (λ p. let fault : Fault = record { path = p; cause = unknown_field } in fault) paths
