-- What a tree is, without where it lies in memory.
use Rattle.std.specs.Prelude.{◌≡◌, ℕ, ℤ, List, [], ◌∷◌, Bool, Option, Some, None}
use Rattle.std.specs.Ordering.{nat_cmp, match_ordering}
use Rattle.std.specs.declared.cmp.Ordering.TheVariants.{Less}
use Rattle.std.specs.Cmp.Lexicographic.{slice_cmp}

mutual
  -- a node is a table, or a leaf with its value: an array is one leaf, into which a reader looks by
  -- positions
  pub data Node : Type 0 where
    table : Entries → Node
    array : Nodes → Node
    text : List ℕ → Node
    int : ℤ → Node
    bool : Bool → Node
    opaque : Node

  -- the items of an array, by position
  pub data Nodes : Type 0 where
    no_nodes : Nodes
    node : Node → Nodes → Nodes

  -- the entries of a table: a key, and the node that is there
  pub data Entries : Type 0 where
    no_entries : Entries
    entry : List ℕ → Node → Entries → Entries

-- what is at a key
abbrev pub get : List ℕ → Entries → Option Node
get k no_entries = None
get k (entry l n es) = match_ordering (slice_cmp nat_cmp k l) (get k es) (Some n) (get k es)

-- the entries with a node at a key: in place of what was there, or before the first greater key
abbrev pub put : List ℕ → Node → Entries → Entries
put k n no_entries = entry k n no_entries
put k n (entry l m es) = match_ordering (slice_cmp nat_cmp k l)
    (entry k n (entry l m es)) (entry l n es) (entry l m (put k n es))

-- the keys, in the order of the entries
abbrev pub keys : Entries → List (List ℕ)
keys no_entries = []
keys (entry k n es) = k ∷ keys es

-- the entries of a node that is a table
abbrev pub as_table : Node → Option Entries
as_table (table es) = Some es
as_table _ = None

-- the items of a node that is an array
abbrev pub as_array : Node → Option Nodes
as_array (array ns) = Some ns
as_array _ = None

-- the text of a node that is one
abbrev pub as_text : Node → Option (List ℕ)
as_text (text s) = Some s
as_text _ = None

-- the number of a node that is one
abbrev pub as_int : Node → Option ℤ
as_int (int z) = Some z
as_int _ = None

-- the truth value of a node that is one
abbrev pub as_bool : Node → Option Bool
as_bool (bool b) = Some b
as_bool _ = None

-- what a table has at a key; nothing else has anything there
abbrev pub member_of : List ℕ → Node → Option Node
member_of k (table es) = get k es
member_of k _ = None

-- the key comes, by its bytes, before all keys of the entries
abbrev pub PrecedesKeys : List ℕ → Entries → Type 0
PrecedesKeys k no_entries = Unit {0}
PrecedesKeys k (entry l n es) = (slice_cmp nat_cmp k l ≡ Less) × PrecedesKeys k es

-- in each table of the node the keys ascend by their bytes
abbrev mutual
  pub IsSorted : Node → Type 0
  IsSorted (table es) = EntriesAreSorted es
  IsSorted (array ns) = NodesAreSorted ns
  IsSorted _ = Unit {0}

  -- so it is in each item
  pub NodesAreSorted : Nodes → Type 0
  NodesAreSorted no_nodes = Unit {0}
  NodesAreSorted (node n ns) = IsSorted n × NodesAreSorted ns

  -- the keys of these entries ascend, and so it is in the node at each key
  pub EntriesAreSorted : Entries → Type 0
  EntriesAreSorted no_entries = Unit {0}
  EntriesAreSorted (entry k n es) = PrecedesKeys k es × IsSorted n × EntriesAreSorted es
