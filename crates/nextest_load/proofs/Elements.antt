-- What the reading of a tree's elements tells.
use Rattle.std.proofs.Common.{◌≡◌, ℕ, List, [], ◌∷◌, Option, Some, None, Ok, Err, option_map, refl, sym, ap}
use Rattle.std.specs.BTreeSet.{contains_text}
use Rattle.nextest_tree.specs.declared.walk.Walk.{Walk}
use Rattle.nextest_tree.specs.declared.fault.ElementFault.{ElementFault}
use Rattle.nextest_tree.specs.Node.{Node}
use Rattle.nextest_tree.specs.Reads.{ReadState, start, walk_view, noting, outcome, reading, fault_view, Fails}
use Rattle.nextest_tree.specs.Schema.{Fault, Schema, first, faults, unknown, is_one_of}
use Rattle.nextest_sources.specs.Causes.{bad_element, at_source}
use Rattle.nextest_sources.specs.Endings.{no_memory, error_view, Found, Refuses}
use Rattle.nextest_sources.specs.Sources.{Source}
use Rattle.nextest_sources.specs.declared.error.ConfigParseError.{ConfigParseError}
use Rattle.nextest_sources.proofs.Ends.{refusal_found, memory_found}
use Rattle.nextest_tables.specs.Tables.{a_file}
use Rattle.nextest_load.specs.Steps.{element_cause}

passes : (fs : List Fault) (paths : List (List ℕ)) (at new : ReadState) → outcome fs paths at ≡ Ok new
    → (fs ≡ []) × (noting paths at ≡ new)
passes [] paths at new h = (refl, cc)
passes (f ∷ fs) paths at new h = cc

fails : (fs : List Fault) (paths : List (List ℕ)) (at : ReadState) (f : Fault) → outcome fs paths at ≡ Err f
    → first fs ≡ Some f
fails [] paths at f h = cc
fails (g ∷ fs) paths at f h = cc

-- a reading that passes has met no fault
none_found : (s : Schema) (n : Node) (new : ReadState) → reading s n start ≡ Ok new → faults s [] n ≡ []
unfolding reading start
none_found s n new h = (passes (faults s [] n) (unknown s [] n) start new h).0

-- and it has noted the unknown paths, and no others
pub noted_are : (s : Schema) (n : Node) (w : Walk) → reading s n start ≡ Ok (walk_view w) → (q : List ℕ)
    → contains_text w.unknown q ≡ is_one_of (unknown s [] n) q
unfolding reading start walk_view
noted_are s n w h q = sym (ap (λ at. at.is_noted q) (passes (faults s [] n) (unknown s [] n) start (walk_view w) h).1)

-- a reading that fails has met the first fault
first_found : (s : Schema) (n : Node) (f : Fault) → reading s n start ≡ Err f → first (faults s [] n) ≡ Some f
unfolding reading start
first_found s n f h = fails (faults s [] n) (unknown s [] n) start f h

pub no_cause : (n : Node) (new : ReadState) → reading a_file n start ≡ Ok new → element_cause n ≡ None
no_cause n new h = rw (none_found a_file n new h) refl

-- how the refusal of a reader is reported
tells : (source : Source) (n : Node) (e : ConfigParseError) (t : Option Fault)
    → ((f : Fault) → t ≡ Some f → reading a_file n start ≡ Err f) → (t ≡ None → error_view e ≡ no_memory)
    → Refuses e (option_map (λ f. at_source source (bad_element f)) t)
    → Found (option_map (at_source source) (element_cause n)) (error_view e)
tells source n e None fault memory h = memory_found _ e (memory refl)
tells source n e (Some f) fault memory h =
    rw (first_found a_file n f (fault f refl)) (refusal_found (at_source source (bad_element f)) e h)

pub refusal_told : (source : Source) (n : Node) (fault : ElementFault) (e : ConfigParseError)
    → Fails fault (reading a_file n start) → (fault_view fault ≡ None → error_view e ≡ no_memory)
    → Refuses e (option_map (λ f. at_source source (bad_element f)) (fault_view fault))
    → Found (option_map (at_source source) (element_cause n)) (error_view e)
refusal_told source n fault e h memory refuses = tells source n e (fault_view fault) h memory refuses
