-- Searches by a table.
use Rattle.std.proofs.Common.{◌≡◌, ℕ, ◌+◌, ◌-◌, ◌*◌, ◌<◌, ◌≤◌, true, false, List, [], ◌∷◌, ◌++◌, length, get_or, ltb, slice_get, slice_index, Some, Vec, Global, vec_len, refl, sym, ap, ◌∙◌, subst, ⊎_elim, arith, lt-ltb, le-ltb}
use Rattle.std.specs.Coded.{coded_bool}
use Rattle.std.proofs.lemmas.Bool.{cases_lt, cond-true, cond-false}
use Rattle.std.proofs.Math.Nat.{mul_comm}
use Rattle.std.proofs.lemmas.Nat.{mul-add-lt}
use Rattle.std.proofs.lemmas.List.{get_or-map, length-map, map_push}
use Rattle.std.proofs.lemmas.List.Elements.{All-get_or}
use mathlib.Core.Logic.{∥∥₁_elim, ∥∥₁_map, ∥∥₁_prop}
use mathlib.Core.HLevel.{×_prop}
use native.Mathlib.Bridge.{le_prop}
use denote.Struct.Props.{≡_prop}
use Rattle.regex_nfa.specs.declared.nfa.Nfa.{Nfa}
use Rattle.filter_engine.specs.Runs.{finds, IsSearched}
use Rattle.filter_engine.specs.Classes.{AreClasses}
use Rattle.filter_engine.specs.Tables.{IsAt, lists_of, row_states, byte_cell, end_cell, cell_of, Means, IsTableOf, Grows}
use Rattle.filter_engine.specs.declared.machine.table.Cell.{Cell}
use Rattle.filter_engine.specs.declared.machine.table.Cell.TheVariants.{Next, Found, NotFound, Unknown}
use Rattle.filter_engine.specs.declared.machine.table.Table.{Table}
use Rattle.filter_engine.proofs.Searches.{found_at, nothing_left, nothing_searched, searched_more}
use Rattle.filter_engine.proofs.Tables.{never_found}

-- How many rows there are.
pub rows_count : (table : Table) → length (lists_of table.rows.items) ≡ vec_len table.rows
rows_count table = length-map table.rows.items (λ row. row.items) ∙ sym table.rows.ok.0

-- The states of a row.
pub row_is : (table : Table) (row : ℕ) (states : Vec ℕ Global) → row < vec_len table.rows
    → states ≡ get_or table.rows.items row states → row_states table row ≡ states.items
row_is table row states below is =
    get_or-map (λ (row : Vec ℕ Global). row.items) table.rows.items row states [] (omega (arith, table.rows.ok.0))
    ∙ ap (λ (row : Vec ℕ Global). row.items) (sym is)

-- The rows with one more.
pub rows_more : (rows new : List (Vec ℕ Global)) (row : Vec ℕ Global) (states : List ℕ) → new ≡ rows ++ row ∷ []
    → row.items ≡ states → lists_of new ≡ lists_of rows ++ states ∷ []
rows_more rows new row states is same =
    ap lists_of is ∙ map_push (λ (row : Vec ℕ Global). row.items) rows row
    ∙ ap (λ last. lists_of rows ++ last ∷ []) same

-- A row of a table is one of each that grows from it.
pub row_within : (old new : Table) (row : ℕ) → Grows old new → row < vec_len old.rows → row < vec_len new.rows
row_within old new row grows below =
    let more = grows.longer in omega (arith, rows_count old, rows_count new)

-- The classes of a table are those of each that grows from it.
pub classes_still : (nfa : Nfa) (old new : Table) (bytes : List ℕ) → Grows old new → AreClasses nfa old.classes bytes
    → AreClasses nfa new.classes bytes
classes_still nfa old new bytes grows sorted = subst (λ classes. AreClasses nfa classes bytes) (sym grows.classes) sorted

-- A class of a byte.
pub class_narrow : (table : Table) (byte : ℕ) → byte < 128 → slice_index table.classes byte + 1 < table.width
class_narrow table byte ascii =
    All-get_or (λ class. class + 1 < table.width) table.classes byte 0 (omega (arith, table.size)) table.sorts

-- The cells of all rows are there.
pub rows_room : (table : Table) → length (lists_of table.rows.items) * table.width ≤ length table.cells.items
rows_room table =
    let same = ap (λ n. n * table.width) (rows_count table) in omega (arith, table.room, table.cells.ok.0)

-- The cell of the end is there.
pub end_within : (table : Table) (row : ℕ) → row < vec_len table.rows
    → row * table.width + (table.width - 1) < vec_len table.cells
end_within table row below =
    let wide = class_narrow table 0 (omega arith) in
    omega (
      arith,
      table.room,
      mul-add-lt row table.width (table.width - 1) (vec_len table.rows) below (omega arith),
      mul_comm table.width (vec_len table.rows),
    )

module _ (nfa : Nfa) (table : Table) (is : IsTableOf nfa table) (name : List ℕ) (at row : ℕ)
    (below : row < vec_len table.rows) (here : IsAt row name at) where
  -- What the cell of a byte says is so.
  byte_means : (byte : ℕ) → slice_get name at ≡ Some byte
      → Means nfa (lists_of table.rows.items) name at row (byte_cell table row byte)
  byte_means byte comes =
      ⊎_elim
      (λ (ascii : byte < 128).
      let narrow = class_narrow table byte ascii in
      let cell = cell_of table.cells.items table.width row (slice_index table.classes byte) in
      subst (Means nfa (lists_of table.rows.items) name at row)
      (sym (cond-true (ltb byte 128) cell Unknown (lt-ltb byte 128 ascii)))
      ((is.told row (slice_index table.classes byte) (omega (arith, rows_count table)) (omega arith)).byte name at byte
      ascii refl here comes))
      (λ (high : 128 ≤ byte).
      let cell = cell_of table.cells.items table.width row (slice_index table.classes byte) in
      subst (Means nfa (lists_of table.rows.items) name at row)
      (sym (cond-false (ltb byte 128) cell Unknown (le-ltb byte 128 high))) tt)
      (cases_lt byte 128)

  -- What the cell of the end says is so.
  end_means : at ≡ length name → Means nfa (lists_of table.rows.items) name at row (end_cell table row)
  end_means past =
      let wide = class_narrow table 0 (omega arith) in
      (is.told row (table.width - 1) (omega (arith, rows_count table)) (omega arith)).end name at (omega arith) here past

  means_row : (to : ℕ) → Means nfa (lists_of table.rows.items) name at row (Next to)
      → (0 < to) × (to < vec_len table.rows)
  means_row to (later, within, steps) = (later, omega (arith, rows_count table))

  means_searched : (to : ℕ) → Means nfa (lists_of table.rows.items) name at row (Next to)
      → IsSearched nfa name at (row_states table row) → IsSearched nfa name (at + 1) (row_states table to)
  means_searched to (later, within, steps) searched =
      searched_more nfa name at (row_states table row) (row_states table to) searched (is.within to) steps

  means_found : Means nfa (lists_of table.rows.items) name at row Found → IsSearched nfa name at (row_states table row)
      → finds nfa name ≡ true
  means_found begins searched = found_at nfa name at (row_states table row) [] searched begins

  means_not_found : Means nfa (lists_of table.rows.items) name at row NotFound
      → IsSearched nfa name at (row_states table row) → finds nfa name ≡ false
  means_not_found (steps, never) searched = never_found nfa name at (row_states table row) searched steps never

  means_end : (cell : Cell) → Means nfa (lists_of table.rows.items) name at row cell → at ≡ length name
      → IsSearched nfa name at (row_states table row) → (cell ≡ Found → ⊥) → (cell ≡ Unknown → ⊥)
      → finds nfa name ≡ false
  means_end (Next to) means past searched found unknown =
      nothing_left nfa name (at + 1) (row_states table to) (omega arith) (means_searched to means searched)
  means_end Found means past searched found unknown = absurd (found refl)
  means_end NotFound means past searched found unknown = means_not_found means searched
  means_end Unknown means past searched found unknown = absurd (unknown refl)

module _ (nfa : Nfa) (table : Table) (tabled : ∥ IsTableOf nfa table ∥₁) (name : List ℕ) (at row : ℕ)
    (below : row < vec_len table.rows) (here : IsAt row name at)
    (searched : ∥ IsSearched nfa name at (row_states table row) ∥₁) where
  -- The row to which a byte leads.
  pub next_row : (byte to : ℕ) → slice_get name at ≡ Some byte → Next to ≡ byte_cell table row byte
      → (0 < to) × (to < vec_len table.rows)
  next_row byte to comes same =
      ∥∥₁_elim tabled (×_prop le_prop le_prop) (λ is.
      means_row nfa table is name at row below here to
      (subst (Means nfa (lists_of table.rows.items) name at row) (sym same)
      (byte_means nfa table is name at row below here byte comes)))

  pub next_searched : (byte to : ℕ) → slice_get name at ≡ Some byte → Next to ≡ byte_cell table row byte
      → ∥ IsSearched nfa name (at + 1) (row_states table to) ∥₁
  next_searched byte to comes same =
      ∥∥₁_elim tabled ∥∥₁_prop (λ is.
      ∥∥₁_map searched (λ so_far.
      means_searched nfa table is name at row below here to
      (subst (Means nfa (lists_of table.rows.items) name at row) (sym same)
      (byte_means nfa table is name at row below here byte comes))
      so_far))

  pub byte_found : (byte : ℕ) → slice_get name at ≡ Some byte → Found ≡ byte_cell table row byte
      → finds nfa name ≡ true
  byte_found byte comes same =
      ∥∥₁_elim tabled (≡_prop coded_bool _ _) (λ is.
      ∥∥₁_elim searched (≡_prop coded_bool _ _) (λ so_far.
      means_found nfa table is name at row below here
      (subst (Means nfa (lists_of table.rows.items) name at row) (sym same)
      (byte_means nfa table is name at row below here byte comes))
      so_far))

  pub byte_not_found : (byte : ℕ) → slice_get name at ≡ Some byte → NotFound ≡ byte_cell table row byte
      → finds nfa name ≡ false
  byte_not_found byte comes same =
      ∥∥₁_elim tabled (≡_prop coded_bool _ _) (λ is.
      ∥∥₁_elim searched (≡_prop coded_bool _ _) (λ so_far.
      means_not_found nfa table is name at row below here
      (subst (Means nfa (lists_of table.rows.items) name at row) (sym same)
      (byte_means nfa table is name at row below here byte comes))
      so_far))

  pub end_is_found : at ≡ length name → Found ≡ end_cell table row → finds nfa name ≡ true
  end_is_found past same =
      ∥∥₁_elim tabled (≡_prop coded_bool _ _) (λ is.
      ∥∥₁_elim searched (≡_prop coded_bool _ _) (λ so_far.
      means_found nfa table is name at row below here
      (subst (Means nfa (lists_of table.rows.items) name at row) (sym same)
      (end_means nfa table is name at row below here past))
      so_far))

  end_is_not_found : (cell : Cell) → at ≡ length name → cell ≡ end_cell table row → (cell ≡ Found → ⊥)
      → (cell ≡ Unknown → ⊥) → finds nfa name ≡ false
  end_is_not_found cell past same found unknown =
      ∥∥₁_elim tabled (≡_prop coded_bool _ _) (λ is.
      ∥∥₁_elim searched (≡_prop coded_bool _ _) (λ so_far.
      means_end nfa table is name at row below here cell
      (subst (Means nfa (lists_of table.rows.items) name at row) (sym same)
      (end_means nfa table is name at row below here past))
      past so_far found unknown))

  pub end_is_next : (to : ℕ) → at ≡ length name → Next to ≡ end_cell table row → finds nfa name ≡ false
  end_is_next to past same =
      end_is_not_found (Next to) past same (λ (e : Next to ≡ Found). cc) (λ (e : Next to ≡ Unknown). cc)

  pub end_has_none : at ≡ length name → NotFound ≡ end_cell table row → finds nfa name ≡ false
  end_has_none past same =
      end_is_not_found NotFound past same (λ (e : NotFound ≡ Found). cc) (λ (e : NotFound ≡ Unknown). cc)

  -- The states from which the walk goes on.
  pub walk_from : (states : List ℕ) → states ≡ row_states table row → ∥ IsSearched nfa name at states ∥₁
  walk_from states same = subst (λ l. ∥ IsSearched nfa name at l ∥₁) (sym same) searched

  pub walk_at : (from : ℕ) (states : List ℕ) → at ≡ from → states ≡ row_states table row
      → ∥ IsSearched nfa name from states ∥₁
  walk_at from states here same = subst (λ f. ∥ IsSearched nfa name f states ∥₁) here (walk_from states same)

-- In a row behind the start.
pub at_next : (row : ℕ) (name : List ℕ) (at : ℕ) → 0 < row → at < length name → IsAt row name (at + 1)
at_next row name at later inside = record {
  inside = omega arith;
  first = λ zero. absurd (omega arith);
  later = λ zero. absurd (omega arith);
}

-- At the start of the name.
pub at_first : (name : List ℕ) → IsAt 0 name 0
at_first name = record { inside = omega arith; first = λ e. e; later = λ e. e }

-- At first nothing is searched, in the first row.
pub first_row : (nfa : Nfa) (table : Table) (name : List ℕ) → ∥ IsTableOf nfa table ∥₁
    → ∥ IsSearched nfa name 0 (row_states table 0) ∥₁
first_row nfa table name tabled =
    ∥∥₁_map tabled (λ is. nothing_searched nfa name (row_states table 0) is.first)
