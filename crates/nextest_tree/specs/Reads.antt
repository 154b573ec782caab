-- What a reader returns, and where it leaves the walk.
use Rattle.std.specs.Prelude.{◌≡◌, ℕ, List, [], ◌∷◌, Bool, false, ◌||◌, Option, Some, None, Result, Ok, Err, string_bytes}
use Rattle.std.specs.BTreeSet.{contains_text}
use Rattle.nextest_tree.specs.declared.key.Key.{Key}
use Rattle.nextest_tree.specs.declared.walk.Walk.{Walk}
use Rattle.nextest_tree.specs.declared.fault.ElementFault.{ElementFault}
use Rattle.nextest_tree.specs.declared.fault.ElementCause.{ElementCause}
use Rattle.nextest_tree.specs.declared.fault.ElementCause.TheVariants as causes
use Rattle.nextest_tree.specs.Key.{key_text}
use Rattle.nextest_tree.specs.Node.{Node, array, Nodes, no_nodes, node, table, Entries, no_entries, entry, get}
use Rattle.nextest_tree.specs.Schema.{FaultCause, wrong_kind, missing, bad_value, out_of_range, unknown_field, Fault, is_one_of, below, Schema, Fields, no_more, field, faults, unknown, field_faults, field_unknown}

-- a walk: the path where it is, and which paths it has noted
pub record ReadState : Type 0 where
  pub path : List ℕ
  pub is_noted : List ℕ → Bool

-- at the root, with nothing noted
unfoldable pub start : ReadState
start = record { path = []; is_noted = λ q. false }

-- what contracts see of a reader's walk
unfoldable pub walk_view : Walk → ReadState
walk_view w = record { path = string_bytes w.path; is_noted = contains_text w.unknown }

-- these paths are noted too, and no others
abbrev pub noting : List (List ℕ) → ReadState → ReadState
noting paths at = record { path = at.path; is_noted = λ q. at.is_noted q || is_one_of paths q }

-- the walk one step on, at what is at a key
abbrev pub inside : List ℕ → ReadState → ReadState
inside k at = record { path = below at.path k; is_noted = at.is_noted }

-- the walk back at a path
abbrev pub back_at : List ℕ → ReadState → ReadState
back_at p at = record { path = p; is_noted = at.is_noted }

-- With no fault, the unknown paths are noted and the walk is where it was; else the first
-- fault is reported.
abbrev pub outcome : List Fault → List (List ℕ) → ReadState → Result ReadState Fault
outcome [] paths at = Ok (noting paths at)
outcome (f ∷ fs) paths at = Err f

-- what reading a node by a schema gives where a walk is: this is the contract of every reader
unfoldable pub reading : Schema → Node → ReadState → Result ReadState Fault
reading s n at = outcome (faults s at.path n) (unknown s at.path n) at

-- one step, and then the next if it met no fault
infixl 10 ◌>>=◌
abbrev pub ◌>>=◌ : {A B : Type 0} → Result A Fault → (A → Result B Fault) → Result B Fault
(Ok x) >>= f = f x
(Err e) >>= f = Err e

-- reading one field of a table
unfoldable pub reading_field : Key → Bool → Schema → Entries → ReadState → Result ReadState Fault
reading_field k must s es at = outcome
    (field_faults k must (faults s) at.path (get (key_text k) es))
    (field_unknown k (unknown s) at.path (get (key_text k) es)) at

-- reading the fields of a table, each in turn
abbrev pub reading_fields : Fields → Entries → ReadState → Result ReadState Fault
reading_fields no_more es at = Ok at
reading_fields (field k must s fs) es at =
    reading_field k (must es) s es at >>= reading_fields fs es

-- what a test gives where the walk is
abbrev pub test_outcome : Option FaultCause → ReadState → Result ReadState Fault
test_outcome None at = Ok at
test_outcome (Some c) at = Err (record { path = at.path; cause = c })

-- the fault of a cause at a path; a refusal of memory has none
abbrev pub fault_at : List ℕ → ElementCause → Option Fault
fault_at p causes.WrongKind = Some (record { path = p; cause = wrong_kind })
fault_at p (causes.Missing k) = Some (record { path = p; cause = missing (string_bytes k) })
fault_at p (causes.BadValue given expected) =
    Some (record { path = p; cause = bad_value (string_bytes given) expected.now })
fault_at p causes.OutOfRange = Some (record { path = p; cause = out_of_range })
fault_at p causes.UnknownField = Some (record { path = p; cause = unknown_field })
fault_at p causes.Memory = None

-- the fault of a reader's refusal
unfoldable pub fault_view : ElementFault → Option Fault
fault_view e = fault_at (string_bytes e.path) e.cause

-- a refusal has a fault only if reading meets that fault
abbrev pub Fails : ElementFault → Result ReadState Fault → Type 0
Fails e read = (f : Fault) → fault_view e ≡ Some f → read ≡ Err f

-- What a reader returned and where it left the walk is what reading gives, unless memory ran out.
abbrev pub Gives : {X : Type 0} → Result X ElementFault → Walk → Result ReadState Fault → Type 0
Gives (Ok x) new read = read ≡ Ok (walk_view new)
Gives (Err e) new read = Fails e read

-- the value at a key is there exactly if the key is
abbrev pub IsOptional : {X : Type 0} → (Node → X → Type 0) → Option Node → Option X → Type 0
IsOptional P None None = Unit {0}
IsOptional P (Some n) (Some x) = P n x
IsOptional P None (Some x) = ⊥
IsOptional P (Some n) None = ⊥

-- the value of a key that is there
abbrev pub IsRequired : {X : Type 0} → (Node → X → Type 0) → Option Node → X → Type 0
IsRequired P o x = IsOptional P o (Some x)

-- the value of a key, which is the given one where the key is absent
abbrev pub IsDefaulted : {X : Type 0} → X → (Node → X → Type 0) → Option Node → X → Type 0
IsDefaulted d P None x = x ≡ d
IsDefaulted d P (Some n) x = P n x

-- the values of the items, one for each
abbrev pub IsList : {X : Type 0} → (Node → X → Type 0) → Nodes → List X → Type 0
IsList P no_nodes [] = Unit {0}
IsList P (node n ns) (x ∷ xs) = P n x × IsList P ns xs
IsList P no_nodes (x ∷ xs) = ⊥
IsList P (node n ns) [] = ⊥

-- the values are those of the items of an array
abbrev pub InArray : {X : Type 0} → (Nodes → X → Type 0) → Node → X → Type 0
InArray P (array ns) x = P ns x
InArray P _ x = ⊥

-- the values of the entries, one for each, under the same keys
abbrev pub IsMap : {K X : Type 0}
    → (K → List ℕ) → (Node → X → Type 0) → Entries → List (K × X) → Type 0
IsMap text P no_entries [] = Unit {0}
IsMap text P (entry k n es) (x ∷ xs) = (text x.0 ≡ k) × P n x.1 × IsMap text P es xs
IsMap text P no_entries (x ∷ xs) = ⊥
IsMap text P (entry k n es) [] = ⊥

-- the values are those of the entries of a table
abbrev pub InTable : {X : Type 0} → (Entries → X → Type 0) → Node → X → Type 0
InTable P (table es) x = P es x
InTable P _ x = ⊥
