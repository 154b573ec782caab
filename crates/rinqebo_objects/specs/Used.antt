-- What the tests and the binaries of a list use of the scripts of a profile.
use Rattle.std.specs.Prelude.{◌++◌, ℕ, Bool, true, List, Option, None, Some, filter, filter_map, map, option_and_then, option_map}
use Rattle.std.specs.List.{flat_map}
use Rattle.nextest_engines.specs.Engines.{Binary, Test, binary_view, test_view}
use Rattle.nextest_load.specs.Closed.{BinaryMatch}
use Rattle.nextest_settings.specs.Deciding.{QueryContext}
use Rattle.nextest_settings.specs.Profile.{EvaluatableModel}
use Rattle.nextest_settings.specs.Queries.{binary_query, evaluated_for_list, list_wrapper_of, query_in, wrapping_rule}
use Rattle.nextest_tables.specs.Written.{Name}
use Rattle.nextest_tree.specs.Schema.{is_one_of}
use Rattle.rinqebo_objects.specs.Enabling.{Enabling, tests_enabling}
use Rattle.rinqebo_objects.specs.declared.listed.Listed.{Listed as Listed'}

-- The tests and the binaries of a list.
pub record Listed : Type 0 where
  pub tests : List Test
  pub binaries : List Binary

-- what contracts see of a list, if it is given
abbrev pub listed_view : Option Listed' → Option Listed
listed_view given = option_map (λ (listed : Listed'). record {
  tests = map test_view listed.tests.now;
  binaries = map binary_view listed.binaries.now;
}) given

-- What a list uses: the tests that enable each setup script, by its id, and the ids of the wrappers
-- that wrap the run of some test or the listing of some binary.
pub record Used : Type 0 where
  pub enabling : Enabling
  pub wrappers : List Name

-- the run wrapper of a test: that of the first script rule that holds for it and names one
abbrev pub run_wrapper_of : {M : Type 0} → QueryContext M → EvaluatableModel M → Option Name
run_wrapper_of query profile =
    option_and_then (λ r. r.writes.scripts.run_wrapper) (wrapping_rule query profile.script_rules)

-- the run wrappers of the tests that have one in a profile
abbrev pub run_wrappers : {M : Type 0} → (M → Test → M → Bool) → EvaluatableModel M → List Test
    → List Name
run_wrappers matches profile tests =
    filter_map (λ test. run_wrapper_of (query_in matches profile test) profile) tests

-- the list wrappers of the binaries that have one in a profile
abbrev pub list_wrappers : {M : Type 0} → BinaryMatch M → EvaluatableModel M → List Binary
    → List Name
list_wrappers matches profile binaries = filter_map
    (λ binary. list_wrapper_of (binary_query matches profile.default_filter.filter binary) profile)
    binaries

-- what a list uses of the scripts of a profile, if there is a list
abbrev pub used_in : {M : Type 0} → (M → Test → M → Bool) → BinaryMatch M → EvaluatableModel M
    → Option Listed → Option Used
used_in matches matches_binary profile given = option_map (λ (listed : Listed). record {
  enabling = tests_enabling matches profile listed.tests;
  wrappers = run_wrappers matches profile listed.tests
      ++ list_wrappers matches_binary profile listed.binaries;
}) given

-- the script rules whose filters are evaluated for the list wrappers of binaries in a profile, by
-- number
abbrev pub evaluated_for_lists : {M : Type 0} → BinaryMatch M → EvaluatableModel M → List Binary
    → List ℕ
evaluated_for_lists matches profile binaries = flat_map
    (λ binary. evaluated_for_list (binary_query matches profile.default_filter.filter binary)
    profile) binaries

-- whether the wrapper of an id is chosen
abbrev pub is_chosen : Option (List Name) → Name → Bool
is_chosen None id = true
is_chosen (Some ids) id = is_one_of ids id

-- The wrappers that a list uses, in the order in which they are defined; all without a list.
abbrev pub wrappers_used : {X : Type 0} → Option Used → List (Name × X) → List (Name × X)
wrappers_used used wrappers =
    filter (λ e. is_chosen (option_map (λ used. used.wrappers) used) e.0) wrappers
