-- How the steps of a path are in the nodes of a document.
use Rattle.std.proofs.Common.{◌≡◌, ℕ, zero, suc, Bool, true, false, List, [], ◌∷◌, Option, Some, None, is_some, option_and_then, option_map, refl, ◌∙◌}
use Rattle.std.specs.Option.{option_map_or}
use Rattle.toml.specs.Data.{Data, table, Items, no_items, item, get_item, push_item}
use Rattle.toml.specs.Tables.{header, Node, value, open_table, open_array, Nodes, get_node, close, close_node}
use Rattle.nextest_places.proofs.Edits.{get_close}
use Rattle.nextest_places.specs.declared.step.Step.{Step}
use Rattle.nextest_places.specs.declared.step.Step.TheVariants.{Key, Position}
use Rattle.nextest_places.specs.Marks.{Mark, State, by_key, into, seen, never, missing, under, fresh}
use Rattle.nextest_places.proofs.Stands.{value_at}

-- something is there, or nothing ever will
abbrev pub settled : Bool → State
settled true = seen
settled false = never

-- in the element at a position, by how the rest is in the last one
abbrev pub state_item : ℕ → List Step → Items → State → State
state_item zero path no_items last = under (into zero) last
state_item (suc i) path no_items last = missing (into (suc i) ∷ fresh path)
state_item zero path (item d ds) last = settled (is_some (value_at path d))
state_item (suc i) path (item d ds) last = state_item i path ds last

abbrev pub state : List Step → Node → State
state [] x = seen
state (Key k ∷ path) (value d) = settled (is_some (value_at (Key k ∷ path) d))
state (Key k ∷ path) (open_table origin ns) =
    under (by_key k.now) (option_map_or (state path) (get_node k.now ns) (missing (fresh path)))
state (Key k ∷ path) (open_array done last) = never
state (Position i ∷ path) (value d) = settled (is_some (value_at (Position i ∷ path) d))
state (Position i ∷ path) (open_table origin ns) = never
state (Position i ∷ path) (open_array done last) = state_item i path done (state path (open_table header last))

-- at a key that may be there
abbrev pub state_of : List Step → Option Node → State
state_of path o = option_map_or (state path) o (missing (fresh path))

-- in a table
abbrev pub table_state : List Step → Nodes → State
table_state path ns = state path (open_table header ns)

abbrev pub is_seen : State → Bool
is_seen seen = true
is_seen never = false
is_seen (missing ms) = false

seen_under : (m : Mark) (s : State) → is_seen (under m s) ≡ is_seen s
seen_under m seen = refl
seen_under m never = refl
seen_under m (missing ms) = refl

seen_settled : (b : Bool) → is_seen (settled b) ≡ b
seen_settled true = refl
seen_settled false = refl

seen_inside : (path : List Step) (o : Option Node)
    → ((x : Node) → is_seen (state path x) ≡ is_some (value_at path (close_node x)))
    → is_seen (state_of path o) ≡ is_some (option_and_then (value_at path) (option_map close_node o))
seen_inside path None same = refl
seen_inside path (Some x) same = same x

seen_item : (i : ℕ) (path : List Step) (done : Items) (last : Data) (s : State)
    → is_seen s ≡ is_some (value_at path last)
    → is_seen (state_item i path done s)
    ≡ is_some (option_and_then (value_at path) (get_item i (push_item done last)))
seen_item zero path no_items last s same = seen_under (into zero) s ∙ same
seen_item (suc i) path no_items last s same = refl
seen_item zero path (item d ds) last s same = seen_settled (is_some (value_at path d))
seen_item (suc i) path (item d ds) last s same = seen_item i path ds last s same

-- something is seen where the data that a node means has it
pub state_seen : (path : List Step) (x : Node) → is_seen (state path x) ≡ is_some (value_at path (close_node x))
state_seen [] x = refl
state_seen (Key k ∷ path) (value d) = seen_settled (is_some (value_at (Key k ∷ path) d))
state_seen (Key k ∷ path) (open_table origin ns) =
    seen_under (by_key k.now) (state_of path (get_node k.now ns))
    ∙ rw (get_close k.now ns) (seen_inside path (get_node k.now ns) (λ x. state_seen path x))
state_seen (Key k ∷ path) (open_array done last) = refl
state_seen (Position i ∷ path) (value d) = seen_settled (is_some (value_at (Position i ∷ path) d))
state_seen (Position i ∷ path) (open_table origin ns) = refl
state_seen (Position i ∷ path) (open_array done last) =
    seen_item i path done (table (close last)) (table_state path last) (state_seen path (open_table header last))
