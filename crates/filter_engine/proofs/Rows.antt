-- What the cells of a row say.
use Rattle.std.proofs.Common.{◌≡◌, ℕ, ◌+◌, ◌<◌, ◌≤◌, ◌⊎◌, Bool, true, false, List, [], length, get_or, Some, None, Ok, Err, take, slice_get, refl, sym, ap, ◌∙◌, subst, ⊎_elim, inl, inr, arith, true≢false}
use Rattle.std.specs.Prelude.{All, Contains, IfOk, Result}
use Rattle.std.specs.declared.alloc.AllocError.{AllocError}
use Rattle.std.specs.Bool.{MatchBool}
use Rattle.std.proofs.lemmas.Bool.{cases_lt}
use Rattle.std.proofs.lemmas.List.{get_or_past, nil_from_length}
use Rattle.std.proofs.lemmas.List.Elements.{All-from_get_or}
use Rattle.std.proofs.lemmas.Option.{get_or_from_slice_get, slice_get-get_or, slice_get_within}
use Rattle.regex_nfa.specs.States.{next_on}
use Rattle.regex_nfa.specs.Run.{state_of}
use Rattle.regex_hir.specs.declared.look.Look as look
use Rattle.regex_hir.specs.declared.look.Look.TheVariants.{Start, End}
use Rattle.regex_nfa.specs.declared.nfa.Nfa.{Nfa}
use Rattle.regex_nfa.specs.declared.state.State.{State}
use Rattle.regex_nfa.specs.declared.state.State.TheVariants.{ByteRange, Sparse, Split, Save, Look, Match, Fail}
use Rattle.regex_nfa.specs.declared.state.Transition.{Transition}
use Rattle.filter_engine.specs.Runs.{AreStates, Begins, Closes, HasStart, IsClosing, Reads, SomeSucceeds, Steps}
use Rattle.filter_engine.specs.Classes.{AreAlike, AreClasses}
use Rattle.filter_engine.specs.Tables.{SeesEdges, StartsFirst, ReadsNothing, reads_byte, IsAt, states_of, row_states, lists_of, Means, Leads, IsCell, IsCellOf, IsTableOf, IsEndCell, ByByte, Grows, LeadsIn}
use Rattle.filter_engine.specs.declared.machine.table.Table.{Table}
use Rattle.filter_engine.specs.declared.machine.table.Cell.{Cell}
use Rattle.filter_engine.specs.declared.machine.table.Cell.TheVariants.{Next, Found, NotFound, Unknown}
use Rattle.filter_engine.proofs.Reading.{reads_all, reads_more, reads_none}
use Rattle.filter_engine.proofs.Steps.{steps_matched, steps_over, steps_at_end}
use Rattle.filter_engine.proofs.Sights.{like_before, like_at_end, same_reached, same_closing}

-- What is read on a byte is read on one that is like it.
pub reads_alike : (nfa : Nfa) (a b : ℕ) (states old new : List ℕ) → AreAlike nfa a b → Reads nfa a states old new
    → Reads nfa b states old new
reads_alike nfa a b states old new alike reads = record {
  added = λ r there.
      ⊎_elim
      (λ before. inl before)
      (λ (from : (q : ℕ) × Contains states q
      × (next_on nfa.transitions.items (state_of nfa q) a ≡ Some r)).
      inr (from.0, from.1, sym (alike from.0) ∙ from.2))
      (reads.added r there);
  all = λ q r there is. reads.all q r there (alike q ∙ is);
  kept = reads.kept;
}

module _ (nfa : Nfa) (sees : SeesEdges nfa) (row : ℕ) (name : List ℕ) (at : ℕ) (here : IsAt row name at) where
  -- Where states were closed before some byte, a step is known before each byte that is like one.
  pub step_known : (states started closed next : List ℕ) (a : ℕ) → at < length name → HasStart nfa states started
      → IsClosing nfa name at started closed → Reads nfa a closed [] next
      → (other : List ℕ) (there b : ℕ) → IsAt row other there → slice_get other there ≡ Some b → AreAlike nfa a b
      → Steps nfa other there states next false
  step_known states started closed next a before starts closing reads other there b two is alike =
      let inside = slice_get_within other there b is in
      let like = like_before row name at other there here two before inside in
      let byte : get_or other there 0 ≡ b = get_or_from_slice_get other there b 0 is in
      steps_over nfa other there states started closed next inside starts
      (same_closing nfa sees name at other there like started closed closing)
      (rw byte (reads_alike nfa a b closed [] next alike reads))

  -- Where a match was found before some byte, one is found before each.
  pub found_before : (states started : List ℕ) → at < length name → HasStart nfa states started
      → Closes nfa name at started started true
      → (other : List ℕ) (there : ℕ) → IsAt row other there → there < length other → Begins nfa other there states
  found_before states started before starts (q, reached, ends) other there two inside =
      let like = like_before row name at other there here two before inside in
      steps_matched nfa other there states started two.inside starts
      (q, same_reached nfa sees name at other there like started q reached, ends)

  -- The same at the end.
  pub found_at_end : (states started : List ℕ) → at ≡ length name → HasStart nfa states started
      → Closes nfa name at started started true
      → (other : List ℕ) (there : ℕ) → IsAt row other there → there ≡ length other → Begins nfa other there states
  found_at_end states started end starts (q, reached, ends) other there two past =
      let like = like_at_end row name at other there here two end past in
      steps_matched nfa other there states started two.inside starts
      (q, same_reached nfa sees name at other there like started q reached, ends)

  pub step_at_end : (states started closed : List ℕ) → at ≡ length name → HasStart nfa states started
      → IsClosing nfa name at started closed
      → (other : List ℕ) (there : ℕ) → IsAt row other there → there ≡ length other
      → Steps nfa other there states [] false
  step_at_end states started closed end starts closing other there two past =
      let like = like_at_end row name at other there here two end past in
      steps_at_end nfa other there states started closed past starts
      (same_closing nfa sees name at other there like started closed closing)

  -- The cell at the end of the name, by whether a match is found there.
  pub end_found : (states started : List ℕ) → at ≡ length name → HasStart nfa states started
      → Closes nfa name at started started true → IsEndCell nfa row states Found
  end_found states started end starts closes other there two past =
      found_at_end states started end starts closes other there two past

  pub end_not_found : (states started closed : List ℕ) → at ≡ length name → HasStart nfa states started
      → IsClosing nfa name at started closed → IsEndCell nfa row states NotFound
  end_not_found states started closed end starts closing other there two past =
      step_at_end states started closed end starts closing other there two past

  means_next : (rows : List (List ℕ)) (next : List ℕ) (cell : Cell) → Leads nfa rows next cell
      → (other : List ℕ) (there : ℕ) → Steps nfa other there (states_of rows row) next false
      → Means nfa rows other there row cell
  means_next rows next (Next to) (later, within, is) other there steps = (later, within, rw is steps)
  means_next rows next Found comes other there steps = absurd comes
  means_next rows next NotFound (none, first) other there steps =
      (rw none at steps, λ from. first other from.0 (omega (arith, from.1)) from.2)
  means_next rows next Unknown comes other there steps = tt

  -- The cell of a byte, by whether a match is found before it.
  pub byte_cell_is : (classes bytes : List ℕ) (width : ℕ) (rows : List (List ℕ)) (class : ℕ) (cell : Cell)
      (started closed : List ℕ) (found : Bool) → at < length name → AreClasses nfa classes bytes
      → width ≡ length bytes + 1 → class < length bytes → HasStart nfa (states_of rows row) started
      → Closes nfa name at started closed found
      → MatchBool found (cell ≡ Found) ((next : List ℕ) × Reads nfa (get_or bytes class 0) closed [] next
      × Leads nfa rows next cell)
      → IsCell nfa classes width rows row class cell
  byte_cell_is classes bytes width rows class cell started closed true before sorted wide small starts closes is = record {
    byte = λ other there b _ _ two comes.
        rw is
        (found_before (states_of rows row) started before starts closes other there two
        (slice_get_within other there b comes));
    end = λ other there last _ _. absurd (omega arith);
  }
  byte_cell_is classes bytes width rows class cell started closed false before sorted wide small starts closes
      (next, reads, comes) = record {
        byte = λ other there b ascii of two is.
            let alike : AreAlike nfa (get_or bytes class 0) b = rw of at (sorted b ascii).1 in
            means_next rows next cell comes other there
            (step_known (states_of rows row) started closed next (get_or bytes class 0) before starts closes reads other
            there b two is alike);
        end = λ other there last _ _. absurd (omega arith);
      }

-- The cell at the end.
pub end_cell_is : (nfa : Nfa) (classes bytes : List ℕ) (width : ℕ) (rows : List (List ℕ)) (row class : ℕ) (cell : Cell)
    → AreClasses nfa classes bytes → class ≡ length bytes → IsEndCell nfa row (states_of rows row) cell
    → IsCell nfa classes width rows row class cell
end_cell_is nfa classes bytes width rows row class cell sorted last is = record {
  byte = λ other there b ascii of two comes. let within = (sorted b ascii).0 in absurd (omega arith);
  end = λ other there _ two past. means_at_end nfa rows row cell is other there two past;
}
  where
    means_at_end : (nfa : Nfa) (rows : List (List ℕ)) (row : ℕ) (cell : Cell)
        → IsEndCell nfa row (states_of rows row) cell
        → (other : List ℕ) (there : ℕ) → IsAt row other there → there ≡ length other
        → Means nfa rows other there row cell
    means_at_end nfa rows row (Next to) is other there two past = absurd is
    means_at_end nfa rows row Found is other there two past = is other there two past
    means_at_end nfa rows row NotFound is other there two past =
        (is other there two past, λ from. omega (arith, from.1, from.2.0))
    means_at_end nfa rows row Unknown is other there two past = absurd is

-- No match begins behind the start of a name, where the start leads to nothing there.
pub starts_first : (nfa : Nfa) → SeesEdges nfa → (name : List ℕ) (at : ℕ) → IsAt 1 name at → at < length name
    → (started closed : List ℕ) → HasStart nfa [] started → IsClosing nfa name at started closed
    → ReadsNothing nfa closed → IsEndCell nfa 1 [] NotFound → StartsFirst nfa
starts_first nfa sees name at here before started closed starts closing nothing ends other there later succeeds =
    let none : SomeSucceeds nfa other (there + 1) [] → ⊥ = λ some. omega (arith, some.1.1) in
    let two : IsAt 1 other there = record {
      inside = succeeds.0;
      first = λ one. absurd (omega arith);
      later = λ zero. absurd (omega arith);
    } in
    ⊎_elim
    (λ (inside : there < length other).
    let b = get_or other there 0 in
    let is = slice_get-get_or other there 0 inside in
    none ((step_known nfa sees 1 name at here [] started closed [] b before starts closing (nothing b) other there b two
    is (λ q. refl)).0 (inr succeeds)))
    (λ (past : length other ≤ there).
    let inside = succeeds.0 in
    none ((ends other there two (omega arith)).0 (inr succeeds)))
    (cases_lt there (length other))

reads_none_on : (transitions : List Transition) (state : State) (byte : ℕ) → reads_byte state ≡ false
    → next_on transitions state byte ≡ None
unfolding next_on
reads_none_on transitions (ByteRange t) byte none = absurd (true≢false none)
reads_none_on transitions (Sparse from to) byte none = absurd (true≢false none)
reads_none_on transitions (Split first second) byte none = refl
reads_none_on transitions (Save slot next) byte none = refl
reads_none_on transitions (Look look next) byte none = refl
reads_none_on transitions Match byte none = refl
reads_none_on transitions Fail byte none = refl

-- One more state that reads no byte.
pub nothing_more : (nfa : Nfa) (states : List ℕ) (i q : ℕ) → ReadsNothing nfa (take i states) → i < length states
    → q ≡ get_or states i 0 → reads_byte (state_of nfa q) ≡ false → ReadsNothing nfa (take (i + 1) states)
nothing_more nfa states i q before below is none byte =
    reads_more nfa byte states i q [] [] [] (before byte) below is
    (rw (reads_none_on nfa.transitions.items (state_of nfa q) byte none) refl)

pub nothing_at_first : (nfa : Nfa) (states : List ℕ) → ReadsNothing nfa (take 0 states)
nothing_at_first nfa states byte = reads_none nfa byte []

pub nothing_at_all : (nfa : Nfa) (states : List ℕ) (i : ℕ) → ReadsNothing nfa (take i states) → i ≡ length states
    → ReadsNothing nfa states
nothing_at_all nfa states i before same byte = reads_all nfa byte states i [] [] (before byte) same

-- A state that looks is one of the automaton.
look_within : (nfa : Nfa) (q next : ℕ) (look : look.Look) → state_of nfa q ≡ Look look next
    → q < length nfa.states.items
look_within nfa q next look is =
    ⊎_elim (λ inside. inside)
    (λ past. absurd (let f = get_or_past nfa.states.items q Fail past in cc))
    (cases_lt q (length nfa.states.items))

-- The states so far look at the edges alone.
abbrev pub SeesEdgesTo : Nfa → ℕ → Type 0
SeesEdgesTo nfa n =
    (q next : ℕ) (look : look.Look) → q < n → state_of nfa q ≡ Look look next → (look ≡ Start) ⊎ (look ≡ End)

pub edges_more : (nfa : Nfa) (n : ℕ) (state : State) → SeesEdgesTo nfa n → state ≡ state_of nfa n
    → ((look : look.Look) (next : ℕ) → state ≡ Look look next → (look ≡ Start) ⊎ (look ≡ End)) → SeesEdgesTo nfa (n + 1)
edges_more nfa n state before here sees q next look below is =
    ⊎_elim
    (λ (earlier : q < n). before q next look earlier is)
    (λ (last : n ≤ q).
    let same : n ≡ q = omega arith in
    sees look next (here ∙ ap (state_of nfa) same ∙ is))
    (cases_lt q n)

pub edges_all : (nfa : Nfa) (n : ℕ) → SeesEdgesTo nfa n → length nfa.states.items ≤ n → SeesEdges nfa
edges_all nfa n before all q next look is =
    let inside = look_within nfa q next look is in before q next look (omega arith) is

-- The cell of a byte, in a table that has grown since its row was closed.
pub cell_filled : (nfa : Nfa) → SeesEdges nfa → (table later : Table) (row : ℕ) (name : List ℕ) (at : ℕ)
    → IsAt row name at → at < length name → (bytes : List ℕ) → AreClasses nfa table.classes bytes
    → table.width ≡ length bytes + 1 → row < length (lists_of table.rows.items) → Grows table later
    → (states started closed : List ℕ) (found : Bool) (class : ℕ) (cell : Cell) → states ≡ row_states table row
    → HasStart nfa states started → Closes nfa name at started closed found → class < length bytes
    → MatchBool found (cell ≡ Found) (ByByte nfa later closed (get_or bytes class 0) cell)
    → IsCellOf nfa later row class cell
cell_filled nfa sees table later row name at here before bytes sorted wide below grows states started closed found class
    cell is starts closes small leads =
    let sorted_still : AreClasses nfa later.classes bytes =
    subst (λ classes. AreClasses nfa classes bytes) (sym grows.classes) sorted in
    let starts_still : HasStart nfa (row_states later row) started =
    subst (λ l. HasStart nfa l started) (is ∙ sym (grows.same row below)) starts in
    byte_cell_is nfa sees row name at here later.classes bytes later.width (lists_of later.rows.items) class cell started
    closed found before sorted_still (grows.width ∙ wide) small starts_still closes leads

-- The cell of the end, in the table.
pub end_filled : (nfa : Nfa) (table : Table) (row class : ℕ) (bytes states : List ℕ) (cell : Cell)
    → AreClasses nfa table.classes bytes → class ≡ length bytes → states ≡ row_states table row
    → IsEndCell nfa row states cell → IsCellOf nfa table row class cell
end_filled nfa table row class bytes states cell sorted last is end =
    end_cell_is nfa table.classes bytes table.width (lists_of table.rows.items) row class cell sorted last
    (subst (λ l. IsEndCell nfa row l cell) is end)

-- Where a table has a row of what is read, its cell says so.
pub next_is : (nfa : Nfa) (table : Table) (states next slice : List ℕ) (byte : ℕ) → Reads nfa byte states [] next
    → slice ≡ next → (result : Result Cell AllocError)
    → IfOk result (λ cell. (nfa : Nfa) → LeadsIn nfa table slice cell)
    → IfOk result (λ cell. ByByte nfa table states byte cell)
next_is nfa table states next slice byte reads same (Ok cell) leads =
    (next, reads, subst (λ l. LeadsIn nfa table l cell) same (leads nfa))
next_is nfa table states next slice byte reads same (Err e) leads = tt

-- Where nothing is read and a match begins at the start alone, none is found.
pub none_is : (nfa : Nfa) (table : Table) (states next : List ℕ) (byte : ℕ) → Reads nfa byte states [] next
    → length next ≡ 0 → StartsFirst nfa → ByByte nfa table states byte NotFound
none_is nfa table states next byte reads none first = (next, reads, (nil_from_length next none, first))

-- What is so is so where there is a cell.
pub where_cell : (result : Result Cell AllocError) (P : Type 0) → P → IfOk result (λ cell. P)
where_cell (Ok cell) P is = is
where_cell (Err e) P is = tt

-- The class of each byte is narrower than the rows.
pub classes_narrow : (nfa : Nfa) (classes bytes : List ℕ) (width : ℕ) → AreClasses nfa classes bytes
    → length classes ≡ 128 → width ≡ length bytes + 1 → All (λ class. class + 1 < width) classes
classes_narrow nfa classes bytes width sorted size wide =
    All-from_get_or (λ class. class + 1 < width) classes 0
    (λ k below. let within = (sorted k (omega arith)).0 in omega arith)

-- The states of a row are states.
pub row_within_states : (nfa : Nfa) (table : Table) (row : ℕ) (states : List ℕ) → IsTableOf nfa table
    → states ≡ row_states table row → AreStates nfa states
row_within_states nfa table row states is same = rw same (is.within row)
