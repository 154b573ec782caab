-- Tables that grow, and searches by them.
use Rattle.std.proofs.Common.{◌≡◌, ℕ, zero, suc, ◌+◌, ◌*◌, ◌<◌, ◌≤◌, false, List, [], ◌∷◌, ◌++◌, length, get_or, set, replicate, refl, sym, ap, ◌∙◌, subst, ⊎_elim, arith, get_or-set_same, get_or-set_other}
use Rattle.std.proofs.lemmas.Bool.{cases_eq, cases_lt}
use Rattle.std.proofs.Math.Nat.{mul_comm, add-mul}
use Rattle.std.proofs.lemmas.Nat.{mul-add-lt, same_from_place}
use Rattle.std.proofs.lemmas.List.{get_or_append_left, get_or_past, get_or_push, get_or-replicate, length-replicate, length_push}
use Rattle.regex_nfa.specs.declared.nfa.Nfa.{Nfa}
use Rattle.filter_engine.specs.Runs.{finds, AreStates, IsSearched, SomeSucceeds, StartsFrom, Steps}
use Rattle.filter_engine.specs.Tables.{states_of, cell_of, Means, IsCell, IsTable, Grows}
use Rattle.filter_engine.specs.declared.machine.table.Cell.{Cell}
use Rattle.filter_engine.specs.declared.machine.table.Cell.TheVariants.{Next, Found, NotFound, Unknown}
use Rattle.filter_engine.specs.declared.machine.table.Table.{Table}
use Rattle.filter_engine.proofs.Reading.{none_within}
use Rattle.filter_engine.proofs.Searches.{is_false, searched_more}

-- The last of some rows, and those in front.
pub row_pushed : (rows : List (List ℕ)) (states : List ℕ) → states_of (rows ++ states ∷ []) (length rows) ≡ states
row_pushed rows states = get_or_push rows states [] (length rows) refl

pub row_kept : (rows : List (List ℕ)) (states : List ℕ) (row : ℕ) → row < length rows
    → states_of (rows ++ states ∷ []) row ≡ states_of rows row
row_kept rows states row below = get_or_append_left rows (states ∷ []) [] row below

one_row_more : (n width : ℕ) → (n + 1) * width ≡ n * width + width
one_row_more n width = omega (arith, add-mul n 1 width)

-- Nothing but unknown cells.
pub all_unknown : (count i : ℕ) → get_or (replicate count Unknown) i Unknown ≡ Unknown
all_unknown count i =
    ⊎_elim
    (λ (below : i < count). get_or-replicate count i Unknown Unknown below)
    (λ (past : count ≤ i).
    get_or_past (replicate count Unknown) i Unknown (omega (arith, length-replicate count Unknown)))
    (cases_lt i count)

module _ (nfa : Nfa) (classes : List ℕ) (width : ℕ) where
  -- Of an unknown cell all is so.
  unknown_cell : (rows : List (List ℕ)) (row class : ℕ) (cell : Cell) → cell ≡ Unknown
      → IsCell nfa classes width rows row class cell
  unknown_cell rows row class cell is =
      rw is (record { byte = λ name at b _ _ _ _. tt; end = λ name at _ _ _. tt })

  one_row : (row : ℕ) → states_of ([] ∷ []) row ≡ []
  one_row zero = refl
  one_row (suc row) = refl

  -- A table of one row of which nothing is known.
  pub new_table : (rows : List (List ℕ)) (cells : List Cell) (count : ℕ) → rows ≡ [] ∷ []
      → cells ≡ replicate count Unknown → IsTable nfa classes width rows cells
  new_table rows cells count one none = record {
    first = rw one refl;
    within = λ row. none_within nfa (states_of rows row) (ap (λ r. states_of r row) one ∙ one_row row);
    unfilled = λ i _. ap (λ l. get_or l i Unknown) none ∙ all_unknown count i;
    told = λ row class _ _.
        unknown_cell rows row class (cell_of cells width row class)
        (ap (λ l. get_or l (row * width + class) Unknown) none ∙ all_unknown count (row * width + class));
  }

  -- One more cell that is so.
  pub cell_set : (rows : List (List ℕ)) (cells : List Cell) (row class : ℕ) (cell : Cell)
      → IsTable nfa classes width rows cells → row < length rows → class < width
      → length rows * width ≤ length cells → IsCell nfa classes width rows row class cell
      → IsTable nfa classes width rows (set cells (row * width + class) cell)
  cell_set rows cells row class cell table below narrow room is =
      let place = mul-add-lt row width class (length rows) below narrow in
      let turn = mul_comm width (length rows) in
      record {
        first = table.first;
        within = table.within;
        unfilled = λ i past.
            get_or-set_other cells (row * width + class) i cell Unknown (omega arith) ∙ table.unfilled i past;
        told = λ r c h n.
            ⊎_elim
            (λ (same : r * width + c ≡ row * width + class).
            let parts = same_from_place r c row class width n narrow same in
            let put : cell_of (set cells (row * width + class) cell) width r c ≡ cell =
            ap (λ k. get_or (set cells (row * width + class) cell) k Unknown) same
            ∙ get_or-set_same cells (row * width + class) cell Unknown (omega arith) in
            subst (λ k. IsCell nfa classes width rows k c (cell_of (set cells (row * width + class) cell) width r c))
            (sym parts.0)
            (subst (λ k. IsCell nfa classes width rows row k (cell_of (set cells (row * width + class) cell) width r c))
            (sym parts.1) (subst (IsCell nfa classes width rows row class) (sym put) is)))
            (λ (other : r * width + c ≡ row * width + class → ⊥).
            rw (get_or-set_other cells (row * width + class) (r * width + c) cell Unknown other) (table.told r c h n))
            (cases_eq (r * width + c) (row * width + class));
      }

  -- What a cell says is so where there is one more row.
  means_more : (rows : List (List ℕ)) (states : List ℕ) (name : List ℕ) (at row : ℕ) (cell : Cell) → row < length rows
      → Means nfa rows name at row cell → Means nfa (rows ++ states ∷ []) name at row cell
  means_more rows states name at row (Next to) below (later, within, steps) = (
    later,
    omega (arith, length_push rows states),
    rw (row_kept rows states row below, row_kept rows states to within) steps,
  )
  means_more rows states name at row Found below begins = rw (row_kept rows states row below) begins
  means_more rows states name at row NotFound below (steps, never) =
      (rw (row_kept rows states row below) steps, never)
  means_more rows states name at row Unknown below is = tt

  cell_more : (rows : List (List ℕ)) (states : List ℕ) (row class : ℕ) (cell : Cell) → row < length rows
      → IsCell nfa classes width rows row class cell → IsCell nfa classes width (rows ++ states ∷ []) row class cell
  cell_more rows states row class cell below is = record {
    byte = λ name at b ascii of here comes.
        means_more rows states name at row cell below (is.byte name at b ascii of here comes);
    end = λ name at last here past. means_more rows states name at row cell below (is.end name at last here past);
  }

  -- One more row.
  pub row_added : (rows : List (List ℕ)) (cells : List Cell) (states : List ℕ)
      → IsTable nfa classes width rows cells → 0 < length rows → AreStates nfa states
      → IsTable nfa classes width (rows ++ states ∷ []) cells
  row_added rows cells states table some within =
      let count = length_push rows states in
      let more : length (rows ++ states ∷ []) * width ≡ length rows * width + width =
      ap (λ n. n * width) count ∙ one_row_more (length rows) width in
      record {
        first = row_kept rows states 0 some ∙ table.first;
        within = λ row.
            ⊎_elim
            (λ (below : row < length rows). rw (row_kept rows states row below) (table.within row))
            (λ (from : length rows ≤ row).
            ⊎_elim
            (λ (last : row ≡ length rows). rw (last, row_pushed rows states) within)
            (λ (past : row ≡ length rows → ⊥).
            none_within nfa (states_of (rows ++ states ∷ []) row)
            (get_or_past (rows ++ states ∷ []) row [] (omega arith)))
            (cases_eq row (length rows)))
            (cases_lt row (length rows));
        unfilled = λ i past. table.unfilled i (omega arith);
        told = λ row class below narrow.
            ⊎_elim
            (λ (old : row < length rows).
            cell_more rows states row class (cell_of cells width row class) old (table.told row class old narrow))
            (λ (from : length rows ≤ row).
            let last : row ≡ length rows = omega arith in
            unknown_cell (rows ++ states ∷ []) row class (cell_of cells width row class)
            (table.unfilled (row * width + class) (rw last (omega arith))))
            (cases_lt row (length rows));
      }

module _ (nfa : Nfa) (name : List ℕ) (at : ℕ) where
  -- A search that leaves no states, where no match starts further on, finds none.
  pub never_found : (states : List ℕ) → IsSearched nfa name at states → Steps nfa name at states [] false
      → (StartsFrom nfa name (at + 1) → ⊥) → finds nfa name ≡ false
  never_found states searched steps never =
      is_false (finds nfa name)
      (λ found.
      let after = searched_more nfa name at states [] searched (none_within nfa [] refl) steps in
      ⊎_elim (λ (some : SomeSucceeds nfa name (at + 1) []). omega (arith, some.1.1)) never (after.left.0 found))

-- A table has its own rows.
pub grows_none : (table : Table) → Grows table table
grows_none table = record { classes = refl; width = refl; longer = omega arith; same = λ row below. refl }

-- A table that grows twice grows.
pub grows_on : (old mid new : Table) → Grows old mid → Grows mid new → Grows old new
grows_on old mid new one two = record {
  classes = two.classes ∙ one.classes;
  width = two.width ∙ one.width;
  longer = let a = one.longer in let b = two.longer in omega arith;
  same = λ row below. let a = one.longer in two.same row (omega arith) ∙ one.same row below;
}
