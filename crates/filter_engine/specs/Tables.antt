-- Tables of the steps of a search.
use Rattle.std.specs.Prelude.{◌≡◌, ℕ, ◌+◌, ◌-◌, ◌*◌, ◌<◌, ◌≤◌, ◌⊎◌, Bool, true, false, if◌then◌else◌, nat_lt, List, [], length, map, MatchOption, Option, Some, Vec, slice_get, slice_index, slice_index_or, ⊤}
use Rattle.std.specs.declared.alloc.Global.{Global}
use Rattle.regex_hir.specs.declared.look.Look.{Look}
use Rattle.regex_hir.specs.declared.look.Look.TheVariants.{Start, End}
use Rattle.regex_nfa.specs.Run.{state_of}
use Rattle.regex_nfa.specs.declared.nfa.Nfa.{Nfa}
use Rattle.regex_nfa.specs.declared.state.State.{State}
use Rattle.regex_nfa.specs.declared.state.State.TheVariants as state
use Rattle.regex_nfa.specs.declared.state.State.TheVariants.{ByteRange, Sparse, Split, Save, Match, Fail}
use Rattle.filter_engine.specs.Runs.{AreStates, Begins, Reads, StartsFrom, Steps, Succeeds}
use Rattle.filter_engine.specs.declared.machine.table.Cell.{Cell}
use Rattle.filter_engine.specs.declared.machine.table.Cell.TheVariants.{Next, Found, NotFound, Unknown}
use Rattle.filter_engine.specs.declared.machine.table.Table.{Table}

-- All assertions of the automaton are on the start and the end of the name.
abbrev pub SeesEdges : Nfa → Type 0
SeesEdges nfa = (q next : ℕ) (look : Look) → state_of nfa q ≡ state.Look look next
    → (look ≡ Start) ⊎ (look ≡ End)

-- A match begins at the start of a name or nowhere.
abbrev pub StartsFirst : Nfa → Type 0
StartsFirst nfa = (name : List ℕ) (at : ℕ) → 0 < at → Succeeds nfa name at nfa.start → ⊥

-- whether the state reads a byte
abbrev pub reads_byte : State → Bool
reads_byte (ByteRange transition) = true
reads_byte (Sparse from to) = true
reads_byte (Split first second) = false
reads_byte (Save slot next) = false
reads_byte (state.Look look next) = false
reads_byte Match = false
reads_byte Fail = false

-- None of the states leads to another on a byte.
abbrev pub ReadsNothing : Nfa → List ℕ → Type 0
ReadsNothing nfa states = (byte : ℕ) → Reads nfa byte states [] []

-- At the position a search may be in the row: at the start of the name in the first one, and behind
-- it in the others.
pub record IsAt (row : ℕ) (name : List ℕ) (at : ℕ) : Type 0 where
  pub inside : at ≤ length name
  pub first : row ≡ 0 → at ≡ 0
  pub later : at ≡ 0 → row ≡ 0

-- the lists of states that these are
abbrev pub lists_of : List (Vec ℕ Global) → List (List ℕ)
lists_of rows = map (λ row. row.items) rows

-- the states of a row
abbrev pub states_of : List (List ℕ) → ℕ → List ℕ
states_of rows row = slice_index_or rows row []

-- the cell of a row and a class
abbrev pub cell_of : List Cell → ℕ → ℕ → ℕ → Cell
cell_of cells width row class = slice_index_or cells (row * width + class) Unknown

-- What the cell of a row says is so at this position of a name.
abbrev pub Means : Nfa → List (List ℕ) → List ℕ → ℕ → ℕ → Cell → Type 0
Means nfa rows name at row (Next to) =
    (0 < to) × (to < length rows) × Steps nfa name at (states_of rows row) (states_of rows to) false
Means nfa rows name at row Found = Begins nfa name at (states_of rows row)
Means nfa rows name at row NotFound =
    Steps nfa name at (states_of rows row) [] false × (StartsFrom nfa name (at + 1) → ⊥)
Means nfa rows name at row Unknown = ⊤

-- The cell says where a search is with these states, or that it finds nothing from there on.
abbrev pub Leads : Nfa → List (List ℕ) → List ℕ → Cell → Type 0
Leads nfa rows next (Next to) = (0 < to) × (to < length rows) × (states_of rows to ≡ next)
Leads nfa rows next Found = ⊥
Leads nfa rows next NotFound = (next ≡ []) × StartsFirst nfa
Leads nfa rows next Unknown = ⊤

module _ (nfa : Nfa) (classes : List ℕ) (width : ℕ) (rows : List (List ℕ)) where
  -- What the cell says of the row is so wherever a search may be in the row, and a byte of the class
  -- comes, or the end of the name, which is the last class.
  pub record IsCell (row class : ℕ) (cell : Cell) : Type 0 where
    pub byte : (name : List ℕ) (at byte : ℕ) → byte < 128 → slice_index classes byte ≡ class
        → IsAt row name at
        → slice_get name at ≡ Some byte → Means nfa rows name at row cell
    pub end : (name : List ℕ) (at : ℕ) → class + 1 ≡ width → IsAt row name at → at ≡ length name
        → Means nfa rows name at row cell

  -- The first row has no states, and what the cells say is so.
  pub record IsTable (cells : List Cell) : Type 0 where
    pub first : states_of rows 0 ≡ []
    pub within : (row : ℕ) → AreStates nfa (states_of rows row)
    pub unfilled : (i : ℕ) → length rows * width ≤ i → slice_index_or cells i Unknown ≡ Unknown
    pub told : (row class : ℕ) → row < length rows → class < width
        → IsCell row class (cell_of cells width row class)

-- the states of a row of the table
abbrev pub row_states : Table → ℕ → List ℕ
row_states table row = states_of (lists_of table.rows.items) row

-- the cell of a row of the table and a byte
abbrev pub byte_cell : Table → ℕ → ℕ → Cell
byte_cell table row byte =
    if nat_lt byte 128
    then cell_of table.cells.items table.width row (slice_index table.classes byte)
    else Unknown

-- the cell of a row of the table and the end of the name
abbrev pub end_cell : Table → ℕ → Cell
end_cell table row = cell_of table.cells.items table.width row (table.width - 1)

-- What the cell would say in the table is so.
abbrev pub IsCellOf : Nfa → Table → ℕ → ℕ → Cell → Type 0
IsCellOf nfa table row class cell = IsCell nfa table.classes table.width (lists_of table.rows.items)
    row class cell

-- What the table says of the automaton's searches is so.
abbrev pub IsTableOf : Nfa → Table → Type 0
IsTableOf nfa table = IsTable nfa table.classes table.width (lists_of table.rows.items)
    table.cells.items

-- What the table says, if there is one, is so.
abbrev pub IsTabled : Nfa → Option Table → Type 0
IsTabled nfa table = MatchOption table ⊤ (IsTableOf nfa)

-- The new table has the rows of the old one, and perhaps more, for the same classes.
pub record Grows (old new : Table) : Type 0 where
  pub classes : new.classes ≡ old.classes
  pub width : new.width ≡ old.width
  pub longer : length (lists_of old.rows.items) ≤ length (lists_of new.rows.items)
  pub same : (row : ℕ) → row < length (lists_of old.rows.items)
      → row_states new row ≡ row_states old row

-- The same of a table.
abbrev pub LeadsIn : Nfa → Table → List ℕ → Cell → Type 0
LeadsIn nfa table next cell = Leads nfa (lists_of table.rows.items) next cell

-- The cell says where a search comes from closed states on the byte.
abbrev pub ByByte : Nfa → Table → List ℕ → ℕ → Cell → Type 0
ByByte nfa table states byte cell = (next : List ℕ) × Reads nfa byte states [] next
    × LeadsIn nfa table next cell

-- The cell says what a search finds from these states at the end of the name.
abbrev pub IsEndCell : Nfa → ℕ → List ℕ → Cell → Type 0
IsEndCell nfa row states (Next to) = ⊥
IsEndCell nfa row states Found =
    (name : List ℕ) (at : ℕ) → IsAt row name at → at ≡ length name → Begins nfa name at states
IsEndCell nfa row states NotFound =
    (name : List ℕ) (at : ℕ) → IsAt row name at → at ≡ length name
    → Steps nfa name at states [] false
IsEndCell nfa row states Unknown = ⊥
