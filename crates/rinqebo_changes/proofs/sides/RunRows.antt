-- Rows of leaves, one after another.
use Rattle.std.proofs.Common.{◌≡◌, ◌∙◌, ℕ, ◌+◌, ◌<◌, ◌≤◌, ◌||◌, Bool, true, false, cond, not, List, [], ◌∷◌, ◌++◌, filter, length, map, take, get_or, ap, sym, subst, string_bytes}
use Rattle.std.proofs.lemmas.List.{append-nil, map-id, take_all}
use Rattle.std.proofs.lemmas.List.Elements.{filter-append}
use Rattle.std.proofs.lemmas.List.Folds.{list_any-append, list_any_at}
use Rattle.std.specs.List.{AllZip, list_any}
use Rattle.rinqebo_report.specs.declared.report.Entry.{Entry}
use Rattle.rinqebo_report.specs.declared.report.SettingRow.{SettingRow}
use Rattle.rinqebo_changes.specs.Sides.RunRows.{is_of_run, is_of_tests, IsEntryRow, AddsEntry}
use Rattle.rinqebo_changes.proofs.sides.Zips.{taken, zip_behind}

-- one more leaf
pub entries_more : (done : List Entry) (entry : Entry) (old new : List SettingRow)
    → AllZip IsEntryRow (filter is_of_run done) old → AddsEntry entry old new
    → AllZip IsEntryRow (filter is_of_run (done ++ entry ∷ [])) new
entries_more done entry old new all adds =
    subst (AllZip IsEntryRow (filter is_of_run (done ++ entry ∷ []))) (sym adds.appended)
    (subst (λ xs. AllZip IsEntryRow xs (old ++ adds.added)) (sym (filter-append is_of_run done (entry ∷ [])))
    (zip_behind IsEntryRow (filter is_of_run done) (filter is_of_run (entry ∷ [])) old adds.added all adds.are_rows))

-- a leaf that is a value of tests is left out
pub entry_left : (entry : Entry) (rows : List SettingRow) → is_of_tests (string_bytes entry.key) ≡ true
    → AddsEntry entry rows rows
entry_left entry rows is = record {
  added = [];
  are_rows = subst (λ b. AllZip IsEntryRow (cond (not b) (entry ∷ []) []) []) (sym is) tt;
  appended = sym (append-nil rows);
}

-- another leaf has its row
pub entry_added : (entry : Entry) (old new : List SettingRow) (row : SettingRow)
    → is_of_tests (string_bytes entry.key) ≡ false → IsEntryRow entry row → new ≡ old ++ row ∷ []
    → AddsEntry entry old new
entry_added entry old new row is are then = record {
  added = row ∷ [];
  are_rows = subst (λ b. AllZip IsEntryRow (cond (not b) (entry ∷ []) []) (row ∷ [])) (sym is) (are, tt);
  appended = then;
}

-- one that passes a test is among all
pub some_passes : {X : Type 0} (p : X → Bool) (xs : List X) (i : ℕ) (x d : X) → i < length xs → x ≡ get_or xs i d
    → p x ≡ true → (b : Bool) → true ≡ (list_any p xs || b)
some_passes p xs i x d lt is has b =
    sym (ap (λ a. a || b) (list_any_at p xs i d lt (ap p (sym is) ∙ has)))

-- none passes so far, and one more does not
pub none_more : {X : Type 0} (p : X → Bool) (xs : List X) (i : ℕ) (x d : X) → i < length xs → x ≡ get_or xs i d
    → list_any p (take i xs) ≡ false → p x ≡ false → list_any p (take (i + 1) xs) ≡ false
none_more p xs i x d lt is none fails =
    ap (list_any p) (taken xs i x d lt is) ∙ list_any-append p (take i xs) (x ∷ []) ∙ (λ j. none j || (fails j || false))

-- none of all passes
pub none_passes : {X : Type 0} (p : X → Bool) (xs : List X) (i : ℕ) → length xs ≤ i → list_any p (take i xs) ≡ false
    → (b : Bool) → b ≡ (list_any p xs || b)
none_passes p xs i le none b = sym (ap (λ a. a || b) (ap (list_any p) (sym (take_all i xs le)) ∙ none))

-- what an iterator of a list yielded until its end is the list
pub all_yielded : {X : Type 0} (yielded all : List X) → map (λ y. y) yielded ≡ all → yielded ≡ all
all_yielded yielded all is = sym (map-id yielded) ∙ is
