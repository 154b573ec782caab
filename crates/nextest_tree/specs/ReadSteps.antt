-- The steps in which readers go over a tree: only clauses of private functions speak of these.
use Rattle.std.specs.Prelude.{ℕ, ◌+◌, List, [], Option, Result, Ok}
use Rattle.std.specs.Fmt.{decimal}
use Rattle.nextest_tree.specs.declared.key.Key.{Key}
use Rattle.nextest_tree.specs.Node.{Node, Nodes, no_nodes, node, Entries, no_entries, entry}
use Rattle.nextest_tree.specs.Schema.{FaultCause, Fault, Others, are_refused, names_of, others_faults, others_unknown, Schema, Fields}
use Rattle.nextest_tree.specs.Reads.{ReadState, noting, inside, back_at, outcome, reading, reading_fields, test_outcome, ◌>>=◌}

-- reading what is at a key, and going back
unfoldable pub reading_below : List ℕ → Schema → Node → ReadState → Result ReadState Fault
reading_below k s n at = reading s n (inside k at) >>= λ mid. Ok (back_at at.path mid)

-- a table refuses the first of the keys that are not among the names, if it refuses such keys
unfoldable pub refusing_others : Others → List Key → Entries → ReadState → Result ReadState Fault
refusing_others how names es at = outcome (others_faults how names at.path es) [] at

-- a table notes the keys that are not among the names, if it notes such keys
abbrev pub noting_others : Others → List Key → Entries → ReadState → ReadState
noting_others how names es at = noting (others_unknown how names at.path es) at

-- reading a table that refuses its other keys: these come before its fields
unfoldable pub reading_closed : Fields → Entries → ReadState → Result ReadState Fault
reading_closed fs es at = refusing_others are_refused (names_of fs) es at >>= reading_fields fs es

-- reading the items of an array from a position on
abbrev pub reading_items : Schema → ℕ → Nodes → ReadState → Result ReadState Fault
reading_items s i no_nodes at = Ok at
reading_items s i (node n ns) at = reading_below (decimal i) s n at >>= reading_items s (i + 1) ns

-- reading one entry of a map: its key, and then its value
unfoldable pub reading_entry : (List ℕ → Option FaultCause)
    → Schema → List ℕ → Node → ReadState → Result ReadState Fault
reading_entry test s k n at =
    (test_outcome (test k) (inside k at) >>= reading s n) >>= λ mid. Ok (back_at at.path mid)

-- reading the entries of a map, each in turn
abbrev pub reading_entries :
    (List ℕ → Option FaultCause) → Schema → Entries → ReadState → Result ReadState Fault
reading_entries test s no_entries at = Ok at
reading_entries test s (entry k n es) at = reading_entry test s k n at >>= reading_entries test s es
