-- What the readers of leaves and of names refuse.
use Rattle.std.proofs.Common.{◌≡◌, ℕ, List, Option, Some, None, Result, Ok, Err, string_bytes, refl, sym, ap, ◌∙◌, subst}
use Rattle.nextest_tree.specs.declared.fault.ElementCause.{ElementCause}
use Rattle.nextest_tree.specs.declared.fault.ElementCause.TheVariants as causes
use Rattle.nextest_tree.specs.declared.fault.ElementFault.{ElementFault}
use Rattle.nextest_tree.specs.Node.{Node}
use Rattle.nextest_tree.specs.Reads.{ReadState, Fails, fault_at, fault_view, outcome, reading, test_outcome}
use Rattle.nextest_tree.specs.Schema.{at as at_path, Fault, FaultCause, Schema, faults, unknown}
use Rattle.nextest_shape.specs.Faults.Found.{cause_view, IsSeen, Sees}

-- the cause of a refusal
abbrev cause_in : Result ReadState Fault → Option FaultCause
cause_in (Ok at) = None
cause_in (Err f) = Some f.cause

no_fault : (c : Option FaultCause) (paths : List (List ℕ)) (p : List ℕ) (at new : ReadState)
    → outcome (at_path p c) paths at ≡ Ok new → c ≡ None
no_fault None paths p at new is = refl
no_fault (Some c) paths p at new is = ap cause_in is

the_fault : (c : Option FaultCause) (paths : List (List ℕ)) (p : List ℕ) (at : ReadState) (f : Fault)
    → outcome (at_path p c) paths at ≡ Err f → c ≡ Some f.cause
the_fault None paths p at f is = ap cause_in is
the_fault (Some c) paths p at f is = ap cause_in is

the_test : (c : Option FaultCause) (at : ReadState) (f : Fault) → test_outcome c at ≡ Err f → c ≡ Some f.cause
the_test None at f is = ap cause_in is
the_test (Some c) at f is = ap cause_in is

-- the faults of a node are at most one, at the node itself
abbrev pub AreOfTest : Schema → Node → Option FaultCause → Type 0
AreOfTest s n test = (p : List ℕ) → faults s p n ≡ at_path p test

-- a value that is read has no fault
pub read_value : (s : Schema) (n : Node) (test : Option FaultCause) (at new : ReadState)
    → AreOfTest s n test → reading s n at ≡ Ok new → test ≡ None
unfolding reading
read_value s n test at new is read =
    no_fault test (unknown s at.path n) at.path at new
    (subst (λ fs. outcome fs (unknown s at.path n) at ≡ Ok new) (is at.path) read)

-- the cause of the definitions that a cause is
seen : (c : ElementCause) → IsSeen c → (f : FaultCause) × (cause_view c ≡ Some f)
seen causes.WrongKind h = (_, refl)
seen (causes.Missing k) h = (_, refl)
seen (causes.BadValue given expected) h = (_, refl)
seen causes.OutOfRange h = (_, refl)
seen causes.UnknownField h = (_, refl)
seen causes.Memory h = absurd h

fault_of : (p : List ℕ) (c : ElementCause) (f : FaultCause) → cause_view c ≡ Some f
    → fault_at p c ≡ Some (record { path = p; cause = f })
fault_of p causes.WrongKind f is = cc
fault_of p (causes.Missing k) f is = cc
fault_of p (causes.BadValue given expected) f is = cc
fault_of p causes.OutOfRange f is = cc
fault_of p causes.UnknownField f is = cc
fault_of p causes.Memory f is = absurd (cc)

the_view : (e : ElementFault) (f : FaultCause) → cause_view e.cause ≡ Some f
    → fault_view e ≡ Some (record { path = string_bytes e.path; cause = f })
unfolding fault_view
the_view e f is = fault_of (string_bytes e.path) e.cause f is

-- a value that is refused has the cause of the refusal
pub refused_value : (s : Schema) (n : Node) (test : Option FaultCause) (at : ReadState) (e : ElementFault)
    (c : ElementCause) → AreOfTest s n test → Fails e (reading s n at) → c ≡ e.cause → IsSeen c
    → Sees (cause_view c) test
unfolding reading
refused_value s n test at e c is fails same ok =
    let known = seen c ok in
    let f : Fault = record { path = string_bytes e.path; cause = known.0 } in
    let view : fault_view e ≡ Some f = the_view e known.0 (ap cause_view (sym same) ∙ known.1) in
    let reads : outcome (at_path at.path test) (unknown s at.path n) at ≡ Err f =
    subst (λ fs. outcome fs (unknown s at.path n) at ≡ Err f) (is at.path) (fails f view) in
    record { cause = known.0; seen = known.1; meant = the_fault test (unknown s at.path n) at.path at f reads }

-- so has a name
pub refused_name : (test : Option FaultCause) (at : ReadState) (e : ElementFault) (c : ElementCause)
    → Fails e (test_outcome test at) → c ≡ e.cause → IsSeen c → Sees (cause_view c) test
refused_name test at e c fails same ok =
    let known = seen c ok in
    let f : Fault = record { path = string_bytes e.path; cause = known.0 } in
    let view : fault_view e ≡ Some f = the_view e known.0 (ap cause_view (sym same) ∙ known.1) in
    record { cause = known.0; seen = known.1; meant = the_test test at f (fails f view) }
