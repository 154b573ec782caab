-- What filters mean: their marks, with the names that their patterns accept.
use Rattle.std.specs.Prelude.{ℕ, Bool, List, [], ◌∷◌, Option, None, Result}
use Rattle.std.specs.Result.{result_map_both}
use Rattle.nextest_engines.specs.Engines.{Binary, Test, RefusalText}
use Rattle.nextest_engines.specs.declared.queries.FiltersetKind.{FiltersetKind}
use Rattle.filter_language.specs.Filters.{filter_in}
use Rattle.filter_language.specs.Filtersets.{subject_of, marks_value_beside, says_true}
use Rattle.filter_language.specs.Formula.{Always}
use Rattle.filter_language.specs.Grammar.{Mark, Asked}
use Rattle.filter_language.specs.Values.{of_test}
use Rattle.filter_engine.specs.declared.engine.NextestFilters.{NextestFilters}
use Rattle.filter_engine.specs.Compiling.{reads_packages, compiled_in}
use Rattle.filter_engine.specs.Refusals.{fault_refusal}

-- A filter is the list of its marks.
abbrev pub Filter : Type 0
Filter = List (Mark (List ℕ → Bool))

-- The filter of a text, or the refusal for its first fault.
abbrev pub read_filter : NextestFilters → FiltersetKind → List ℕ → Result Filter RefusalText
read_filter engine kind text =
    result_map_both (λ marks. marks) fault_refusal
    (filter_in (compiled_in engine) (reads_packages engine.packages) kind text)

-- The filter `all()`.
abbrev pub everything : Filter
everything = Asked Always ∷ []

-- Whether a name is among the names.
abbrev pub is_among : (List ℕ → Bool) → List ℕ → Bool
is_among names name = names name

-- Whether a filter matches a test, beside a default filter.
abbrev pub filter_holds : Filter → Test → Filter → Bool
filter_holds filter test default =
    says_true (marks_value_beside is_among (of_test test) default filter)

-- Whether a filter matches a binary, beside a default filter, or none where that depends on the
-- test.
abbrev pub filter_holds_binary : Filter → Binary → Filter → Option Bool
filter_holds_binary filter binary default =
    marks_value_beside is_among (subject_of binary None) default filter
