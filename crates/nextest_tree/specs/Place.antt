-- The order of places, and each fault of a tree at its place.
use Rattle.std.specs.Prelude.{◌≡◌, ℕ, List, [], ◌∷◌, ◌++◌, ◌+◌, ◌<◌, map, Bool, Option, Some, None, if◌then◌else◌}
use Rattle.std.specs.Ordering.{nat_cmp}
use Rattle.std.specs.declared.cmp.Ordering.TheVariants.{Less}
use Rattle.std.specs.Cmp.Lexicographic.{slice_cmp}
use Rattle.std.specs.Fmt.{decimal}
use Rattle.nextest_tree.specs.declared.key.Key.{Key}
use Rattle.nextest_tree.specs.Key.{key_text}
use Rattle.nextest_tree.specs.Node.{Node, table, array, Nodes, no_nodes, node, Entries, no_entries, entry, get, IsSorted}
use Rattle.nextest_tree.specs.Schema.{FaultCause, wrong_kind, missing, unknown_field, Fault, below, Others, are_noted, are_refused, Schema, any, leaf, fields, map_of, items_of, Fields, no_more, field, names_of, others, faults}

-- one step of a place
pub data Step : Type 0 where
  -- a key that its table refuses
  other_key : List ℕ → Step
  -- the field at this position of its table's list
  in_field : ℕ → Step
  -- several fields of a table at once
  all_fields : Step
  -- what is at this key
  at_key : List ℕ → Step
  -- of an entry of a map its key, and its value
  the_key : Step
  the_value : Step
  -- the item at this position of an array
  at_position : ℕ → Step
  -- a whole array
  all_items : Step

-- the steps from the root on
abbrev pub Place : Type 0
Place = List Step

-- which of two steps that start at one node comes first
pub data IsFirstStep : Step → Step → Type 0 where
  refused_by_bytes : {k l : List ℕ} → slice_cmp nat_cmp k l ≡ Less
      → IsFirstStep (other_key k) (other_key l)
  refused_before_field : {k : List ℕ} {i : ℕ} → IsFirstStep (other_key k) (in_field i)
  refused_before_all : {k : List ℕ} → IsFirstStep (other_key k) all_fields
  by_field_order : {i j : ℕ} → i < j → IsFirstStep (in_field i) (in_field j)
  field_before_all : {i : ℕ} → IsFirstStep (in_field i) all_fields
  by_bytes : {k l : List ℕ} → slice_cmp nat_cmp k l ≡ Less → IsFirstStep (at_key k) (at_key l)
  key_before_value : IsFirstStep the_key the_value
  by_position : {i j : ℕ} → i < j → IsFirstStep (at_position i) (at_position j)
  item_before_all : {i : ℕ} → IsFirstStep (at_position i) all_items

-- one place is before another: at the first step where they differ, its step comes first
pub data StandsBefore : Place → Place → Type 0 where
  here : {a b : Step} {p q : Place} → IsFirstStep a b → StandsBefore (a ∷ p) (b ∷ q)
  later : {a : Step} {p q : Place} → StandsBefore p q → StandsBefore (a ∷ p) (a ∷ q)

-- a cause at its place
pub record SitedCause : Type 0 where
  pub place : Place
  pub cause : FaultCause

-- the place is before all of these
abbrev pub StandsBeforeAll : Place → List SitedCause → Type 0
StandsBeforeAll p [] = Unit {0}
StandsBeforeAll p (x ∷ xs) = StandsBefore p x.place × StandsBeforeAll p xs

-- the places strictly ascend: each is before all that follow it
abbrev pub Ascends : List SitedCause → Type 0
Ascends [] = Unit {0}
Ascends (x ∷ xs) = StandsBeforeAll x.place xs × Ascends xs

-- the path that a step adds to: the steps of keys and positions spell themselves
abbrev pub path_after : List ℕ → Step → List ℕ
path_after p (other_key k) = below p k
path_after p (in_field i) = p
path_after p all_fields = p
path_after p (at_key k) = below p k
path_after p the_key = p
path_after p the_value = p
path_after p (at_position i) = below p (decimal i)
path_after p all_items = p

-- the path of a place that starts at a path
abbrev pub path_from : List ℕ → Place → List ℕ
path_from p [] = p
path_from p (a ∷ q) = path_from (path_after p a) q

-- a cause at its place, as a fault at its path
abbrev pub fault_at_place : List ℕ → SitedCause → Fault
fault_at_place p x = record { path = path_from p x.place; cause = x.cause }

-- a cause right here, if there is one
abbrev pub cause_here : Option FaultCause → List SitedCause
cause_here None = []
cause_here (Some c) = record { place = []; cause = c } ∷ []

-- the same, one step further down
abbrev pub below_step : Step → List SitedCause → List SitedCause
below_step a xs = map (λ x. record { place = a ∷ x.place; cause = x.cause }) xs

-- the causes at one field
unfoldable pub field_causes : Key → Bool → (Node → List SitedCause) → Option Node → List SitedCause
field_causes k must f None = if must then cause_here (Some (missing (key_text k))) else []
field_causes k must f (Some n) = below_step (at_key (key_text k)) (f n)

-- the causes of the keys that a table refuses
abbrev pub other_causes : Others → List (List ℕ) → List SitedCause
other_causes are_noted ks = []
other_causes are_refused ks =
    map (λ k. record { place = other_key k ∷ []; cause = unknown_field }) ks

-- the causes in the items of an array, each at its position from i on
abbrev pub item_causes : (Node → List SitedCause) → ℕ → Nodes → List SitedCause
item_causes f i no_nodes = []
item_causes f i (node n ns) = below_step (at_position i) (f n) ++ item_causes f (i + 1) ns

-- the causes in the entries of a map, each at its key: those of the key, then those of the value
abbrev pub entry_causes :
    (List ℕ → Option FaultCause) → (Node → List SitedCause) → Entries → List SitedCause
entry_causes test f no_entries = []
entry_causes test f (entry k n es) =
    below_step (at_key k)
    (below_step the_key (cause_here (test k)) ++ below_step the_value (f n))
    ++ entry_causes test f es

abbrev mutual
  -- all causes of a node, each at its place
  pub sited_causes : Schema → Node → List SitedCause
  sited_causes any n = []
  sited_causes (leaf test) n = cause_here (test n)
  sited_causes (fields how other fs across) (table es) =
      other_causes how (others (names_of fs) es)
      ++ (fields_causes 0 fs es ++ below_step all_fields (cause_here (across es)))
  sited_causes (fields how other fs across) n = sited_causes other n
  sited_causes (map_of test s) (table es) = entry_causes test (sited_causes s) es
  sited_causes (map_of test s) n = cause_here (Some wrong_kind)
  sited_causes (items_of other s across) (array ns) =
      item_causes (sited_causes s) 0 ns ++ below_step all_items (cause_here (across ns))
  sited_causes (items_of other s across) n = sited_causes other n

  -- the causes at the fields, each at its position from i on
  pub fields_causes : ℕ → Fields → Entries → List SitedCause
  fields_causes i no_more es = []
  fields_causes i (field k must s fs) es =
      below_step (in_field i) (field_causes k (must es) (sited_causes s) (get (key_text k) es))
      ++ fields_causes (i + 1) fs es

-- the faults of a node are its causes at their places, in the order of places
pub record AreInOrder (s : Schema) (p : List ℕ) (n : Node) : Type 0 where
  pub at_places : faults s p n ≡ map (fault_at_place p) (sited_causes s n)
  pub ascending : Ascends (sited_causes s n)

-- so it is for every node in whose tables the keys ascend
abbrev pub HasOrderedFaults : Schema → Type 0
HasOrderedFaults s = (p : List ℕ) (n : Node) → IsSorted n → AreInOrder s p n
