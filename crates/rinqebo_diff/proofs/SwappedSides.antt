-- What changes for tests between swapped sides.
use Rattle.std.proofs.Common.{◌≡◌, ◌∙◌, Bool, List, [], ◌∷◌, Option, None, Some, map, refl, sym, ap, subst}
use Rattle.std.specs.List.{AllZip, filter_map}
use Rattle.std.specs.Vec.{with_items}
use Rattle.std.proofs.lemmas.List.{length-map, with_items_is}
use Rattle.nextest_elements.specs.declared.run_mode.NextestRunMode.{NextestRunMode}
use Rattle.filter_inputs.specs.Lists.Lists.{ListTest}
use Rattle.rinqebo_changes.specs.Changes.{changed_rows, is_change, rows_in}
use Rattle.rinqebo_changes.specs.Laws.{swapped}
use Rattle.rinqebo_changes.specs.declared.change.RowChange.{RowChange}
use Rattle.rinqebo_changes.specs.declared.change.SideRow.{SideRow}
use Rattle.rinqebo_changes.specs.declared.change.TestChanges.{TestChanges}
use Rattle.rinqebo_changes.proofs.Fair.{fair}
use Rattle.rinqebo_report.specs.declared.origin.Source.{Source}
use Rattle.rinqebo_report.specs.declared.report.TestRows.{TestRows}
use Rattle.rinqebo_request.specs.declared.request.RequestedSettings.{RequestedSettings}
use Rattle.rinqebo_diff.specs.Asked.{compares_runs}
use Rattle.rinqebo_diff.specs.Compared.{AreCompared, IsComparedBy}
use Rattle.rinqebo_diff.specs.Differences.{SideReports}
use Rattle.rinqebo_diff.specs.Sides.{Evaluation}
use Rattle.rinqebo_diff.specs.SwappedSides.{swapped_pair, HaveSwapped, IsSwapped}
use Rattle.rinqebo_changes.specs.Sides.Matched.{TestPair}

-- what changes for a test, and what does from the other side
abbrev Swaps : Option TestChanges → Option TestChanges → Type 0
Swaps None None = Unit {0}
Swaps (Some a) (Some b) = IsSwapped a b
Swaps _ _ = ⊥

nothing_mapped : (rows : List RowChange) → map swapped rows ≡ [] → rows ≡ []
nothing_mapped [] none = refl
nothing_mapped (r ∷ rows) none = absurd (cc)

-- what is kept of two lists of results
kept : (r s : Option TestChanges) (rs ss : List (Option TestChanges)) → Swaps r s
    → AllZip IsSwapped (filter_map (λ q. q) rs) (filter_map (λ q. q) ss)
    → AllZip IsSwapped (filter_map (λ q. q) (r ∷ rs)) (filter_map (λ q. q) (s ∷ ss))
kept None None rs ss swaps rest = rest
kept None (Some b) rs ss swaps rest = absurd swaps
kept (Some a) None rs ss swaps rest = absurd swaps
kept (Some a) (Some b) rs ss swaps rest = (swaps, rest)

module _ (left right : ListTest → TestRows → Type 0) (test other : SideRow → SideRow → Bool) (runs : Bool)
    (swap : (one two : List SideRow) → changed_rows other two one ≡ map swapped (changed_rows test one two)) where
  -- what changes for a test, from the other side
  record OneSwapped (pair : TestPair) (result : Option TestChanges) : Type 0 where
    found : Option TestChanges
    are : IsComparedBy right left other runs (swapped_pair pair) found
    swaps : Swaps result found

  one_swapped : (pair : TestPair) (result : Option TestChanges) → IsComparedBy left right test runs pair result
      → OneSwapped pair result
  one_swapped pair None by = record {
    found = None;
    are = record {
      before = by.after;
      after = by.before;
      left_reports = by.right_reports;
      right_reports = by.left_reports;
      verdict = swap (rows_in runs by.before) (rows_in runs by.after) ∙ ap (map swapped) by.verdict;
    };
    swaps = tt;
  }
  one_swapped pair (Some changed) by =
      let before = by.before in
      let rows = map swapped changed.rows.items in
      let back : TestChanges = record {
        test = record { binary = before.binary; name = before.name; platform = before.platform };
        rows = with_items changed.rows rows;
      } in
      let written : back.rows.items ≡ rows =
      with_items_is changed.rows rows (length-map changed.rows.items swapped ∙ sym changed.rows.ok.0) in
      record {
        found = Some back;
        are = record {
          before = by.after;
          after = before;
          left_reports = by.right_reports;
          right_reports = by.left_reports;
          verdict = record {
            test = refl;
            rows = written ∙ ap (map swapped) by.verdict.rows ∙ sym (swap (rows_in runs before) (rows_in runs by.after));
            some = λ none. by.verdict.some (nothing_mapped changed.rows.items (sym written ∙ none));
          };
        };
        swaps = record { rows = written };
      }

  -- what changes for tests, from the other side
  record AllSwapped (pairs : List TestPair) (results : List (Option TestChanges)) : Type 0 where
    found : List (Option TestChanges)
    are : AllZip (IsComparedBy right left other runs) (map swapped_pair pairs) found
    swaps : AllZip IsSwapped (filter_map (λ q. q) results) (filter_map (λ q. q) found)

  all_swapped : (pairs : List TestPair) (results : List (Option TestChanges))
      → AllZip (IsComparedBy left right test runs) pairs results → AllSwapped pairs results
  all_swapped [] [] all = record { found = []; are = tt; swaps = tt }
  all_swapped [] (r ∷ rs) all = absurd all
  all_swapped (p ∷ ps) [] all = absurd all
  all_swapped (p ∷ ps) (r ∷ rs) all =
      let one = one_swapped p r all.0 in
      let rest = all_swapped ps rs all.1 in
      record {
        found = one.found ∷ rest.found;
        are = (one.are, rest.are);
        swaps = kept r one.found rs rest.found one.swaps rest.swaps;
      }

  have_swapped : (pairs : List TestPair) (changed : List TestChanges) → AreCompared left right test runs pairs changed
      → HaveSwapped left right other runs pairs changed
  have_swapped pairs changed compared =
      let all = all_swapped pairs compared.results compared.each in
      let others = filter_map (λ q. q) all.found in
      record {
        others = others;
        are = record { results = all.found; each = all.are; kept = refl };
        each = subst (λ cs. AllZip IsSwapped cs others) (sym compared.kept) all.swaps;
      }

-- swapped sides swap what changes for tests
pub sides_swapped : (left right : Evaluation) (one two : NextestRunMode) (asked : RequestedSettings)
    (files others : List Source) (with_origins : Bool) (pairs : List TestPair) (changed : List TestChanges)
    → AreCompared (SideReports left one asked) (SideReports right two asked) (is_change files others with_origins)
    (compares_runs asked) pairs changed
    → HaveSwapped (SideReports left one asked) (SideReports right two asked) (is_change others files with_origins)
    (compares_runs asked) pairs changed
sides_swapped left right one two asked files others with_origins pairs changed compared =
    have_swapped (SideReports left one asked) (SideReports right two asked) (is_change files others with_origins)
    (is_change others files with_origins) (compares_runs asked) (fair files others with_origins).swap pairs changed compared
