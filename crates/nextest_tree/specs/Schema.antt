-- What may be at each place of a tree: all its faults in the order of places, and its unknown
-- keys.
use Rattle.std.specs.Prelude.{ℕ, List, [], ◌∷◌, ◌++◌, ◌+◌, map, filter, codes}
use Rattle.std.specs.Prelude.{Bool, true, false, not, Option, Some, None, if◌then◌else◌}
use Rattle.std.specs.List.{list_any}
use Rattle.std.specs.Fmt.{decimal}
use Rattle.std.specs.Str.{bytes_eq}
use Rattle.nextest_tree.specs.declared.key.Key.{Key}
use Rattle.nextest_tree.specs.Key.{key_text}
use Rattle.nextest_tree.specs.Node.{Node, table, array, Nodes, no_nodes, node, Entries, no_entries, entry, get, keys}

-- why a value is refused
pub data FaultCause : Type 0 where
  wrong_kind : FaultCause
  missing : (key : List ℕ) → FaultCause
  bad_value : (given expected : List ℕ) → FaultCause
  out_of_range : FaultCause
  unknown_field : FaultCause

-- where something is refused, and why
pub record Fault : Type 0 where
  pub path : List ℕ
  pub cause : FaultCause

-- the first of a list
abbrev pub first : {A : Type 0} → List A → Option A
first [] = None
first (x ∷ xs) = Some x

-- the path of what is at a key of a path: keys and positions are joined by dots, and the root
-- is the empty text
abbrev pub below : List ℕ → List ℕ → List ℕ
below [] k = k
below (c ∷ p) k = (c ∷ p) ++ codes "." ++ k

-- what a table does with a key that is not among its fields
pub data Others : Type 0 where
  are_noted : Others
  are_refused : Others

mutual
  -- what may be at a place, and below it
  pub data Schema : Type 0 where
    -- known, and never looked into
    any : Schema
    -- a value of one test
    leaf : (Node → Option FaultCause) → Schema
    -- a table of these fields, with a test over several of them; what is not a table has the other
    -- schema
    fields : Others → Schema → Fields → (Entries → Option FaultCause) → Schema
    -- a table with one test for its keys and one schema for all its values
    map_of : (List ℕ → Option FaultCause) → Schema → Schema
    -- an array with one schema for its items and a test of the whole; what is not an array has the
    -- other schema
    items_of : Schema → Schema → (Nodes → Option FaultCause) → Schema

  -- the fields of a table, in their order
  pub data Fields : Type 0 where
    no_more : Fields
    -- a key, whether it must be there, what may be there, and the fields after it
    field : Key → (Entries → Bool) → Schema → Fields → Fields

-- the text is one of these
abbrev pub is_one_of : List (List ℕ) → List ℕ → Bool
is_one_of names k = list_any (λ name. bytes_eq name k) names

-- the keys of the fields, in order
abbrev pub names_of : Fields → List Key
names_of no_more = []
names_of (field k must s fs) = k ∷ names_of fs

-- some fields, and then others
abbrev pub append_fields : Fields → Fields → Fields
append_fields no_more gs = gs
append_fields (field k must s fs) gs = field k must s (append_fields fs gs)

-- the keys of a table that are not among the names
abbrev pub others : List Key → Entries → List (List ℕ)
others names es = filter (λ k. not (is_one_of (map key_text names) k)) (keys es)

-- a fault at the path, if there is a cause
abbrev pub at : List ℕ → Option FaultCause → List Fault
at p None = []
at p (Some c) = record { path = p; cause = c } ∷ []

-- what f gives for each item, at its position from i on
abbrev pub each_item : {A : Type 0} → (List ℕ → Node → List A) → List ℕ → ℕ → Nodes
    → List A
each_item f p i no_nodes = []
each_item f p i (node n ns) = f (below p (decimal i)) n ++ each_item f p (i + 1) ns

-- what f gives for each entry, at its key
abbrev pub each_entry : {A : Type 0} → (List ℕ → Node → List A) → Entries → List A
each_entry f no_entries = []
each_entry f (entry k n es) = f k n ++ each_entry f es

-- the faults at one field: one if it is missing and must be there, else those of what is there
unfoldable pub field_faults :
    Key → Bool → (List ℕ → Node → List Fault) → List ℕ → Option Node → List Fault
field_faults k must f p None = if must then at p (Some (missing (key_text k))) else []
field_faults k must f p (Some n) = f (below p (key_text k)) n

-- the unknown paths below one field
unfoldable pub field_unknown :
    Key → (List ℕ → Node → List (List ℕ)) → List ℕ → Option Node → List (List ℕ)
field_unknown k f p None = []
field_unknown k f p (Some n) = f (below p (key_text k)) n

-- the faults of the keys that are not among the names: none where a table notes them, else one for
-- each
abbrev pub others_faults : Others → List Key → List ℕ → Entries → List Fault
others_faults are_noted names p es = []
others_faults are_refused names p es =
    map (λ k. record { path = below p k; cause = unknown_field }) (others names es)

-- the unknown paths of a table's own keys: those that are not among the names, where a table notes
-- them
abbrev pub others_unknown : Others → List Key → List ℕ → Entries → List (List ℕ)
others_unknown are_noted names p es = map (below p) (others names es)
others_unknown are_refused names p es = []

abbrev mutual
  -- all faults of a node at a path, in the order of places: refused keys, then each field in turn,
  -- then the test over several fields; in a map each key and then its value; in an array each item
  -- and then the test of the whole
  pub faults : Schema → List ℕ → Node → List Fault
  faults any p n = []
  faults (leaf test) p n = at p (test n)
  faults (fields how other fs across) p (table es) =
      others_faults how (names_of fs) p es ++ (fields_faults fs p es ++ at p (across es))
  faults (fields how other fs across) p n = faults other p n
  faults (map_of test s) p (table es) =
      each_entry (λ k n. at (below p k) (test k) ++ faults s (below p k) n) es
  faults (map_of test s) p n = at p (Some wrong_kind)
  faults (items_of other s across) p (array ns) = each_item (faults s) p 0 ns ++ at p (across ns)
  faults (items_of other s across) p n = faults other p n

  -- the faults at the fields, each in turn
  pub fields_faults : Fields → List ℕ → Entries → List Fault
  fields_faults no_more p es = []
  fields_faults (field k must s fs) p es =
      field_faults k (must es) (faults s) p (get (key_text k) es) ++ fields_faults fs p es

abbrev mutual
  -- the paths of the unknown keys of a node: keys of a struct table that are not among its fields;
  -- nothing below one is looked at
  pub unknown : Schema → List ℕ → Node → List (List ℕ)
  unknown any p n = []
  unknown (leaf test) p n = []
  unknown (fields how other fs across) p (table es) =
      fields_unknown fs p es ++ others_unknown how (names_of fs) p es
  unknown (fields how other fs across) p n = unknown other p n
  unknown (map_of test s) p (table es) = each_entry (λ k n. unknown s (below p k) n) es
  unknown (map_of test s) p n = []
  unknown (items_of other s across) p (array ns) = each_item (unknown s) p 0 ns
  unknown (items_of other s across) p n = unknown other p n

  -- the paths of the unknown keys below the fields, each in turn
  pub fields_unknown : Fields → List ℕ → Entries → List (List ℕ)
  fields_unknown no_more p es = []
  fields_unknown (field k must s fs) p es =
      field_unknown k (unknown s) p (get (key_text k) es) ++ fields_unknown fs p es

-- what is not a table is of the wrong kind
abbrev pub not_table : Node → Option FaultCause
not_table (table es) = None
not_table _ = Some wrong_kind

-- what is not an array is of the wrong kind
abbrev pub not_array : Node → Option FaultCause
not_array (array ns) = None
not_array _ = Some wrong_kind

-- a table of fields that notes its other keys
abbrev pub struct : Fields → Schema
struct fs = fields are_noted (leaf not_table) fs (λ es. None)

-- a list
abbrev pub list_of : Schema → Schema
list_of s = items_of (leaf not_array) s (λ ns. None)

-- a field that may be absent, before other fields
abbrev pub may : Key → Schema → Fields → Fields
may k s fs = field k (λ es. false) s fs

-- a field that must be there, before other fields
abbrev pub must : Key → Schema → Fields → Fields
must k s fs = field k (λ es. true) s fs

-- a table of fields that refuses its other keys; what is not a table has the other schema
abbrev pub closed_struct : Schema → Fields → Schema
closed_struct other fs = fields are_refused other fs (λ es. None)
