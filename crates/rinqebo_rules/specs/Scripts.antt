-- The scripts of a list, as a report lists them.
use Rattle.std.specs.Prelude.{◌≡◌, ℕ, Bool, List, filter_map, map, Option, option_map, string_bytes}
use Rattle.nextest_engines.specs.Engines.{Binary, Test}
use Rattle.nextest_load.specs.Closed.{BinaryMatch}
use Rattle.nextest_settings.specs.Deciding.{QueryContext}
use Rattle.nextest_settings.specs.Profile.{EvaluatableModel}
use Rattle.nextest_settings.specs.Queries.{binary_query, enabled_scripts, list_wrapper_of, query_in}
use Rattle.nextest_tables.specs.Written.{Name}
use Rattle.rinqebo_report.specs.declared.report.ListScripts.{ListScripts}
use Rattle.rinqebo_report.specs.declared.report.ListWrapper.{ListWrapper}

-- a binary in a profile, judged by what filters match
abbrev pub binary_in : {M : Type 0} → BinaryMatch M → EvaluatableModel M → Binary → QueryContext M
binary_in matches profile binary = binary_query matches profile.default_filter.filter binary

-- the ids of the setup scripts that tests enable in a profile, in the order in which they run
abbrev pub enabled_ids : {M : Type 0} → (M → Test → M → Bool) → EvaluatableModel M → List Test
    → List Name
enabled_ids matches profile tests =
    map (λ script. script.0) (enabled_scripts (map (query_in matches profile) tests) profile)

-- the list wrapper that a profile gives a binary, if it does: the binary's id and the wrapper's
abbrev pub wrapper_at : {M : Type 0} → BinaryMatch M → EvaluatableModel M → Binary
    → Option (List ℕ × Name)
wrapper_at matches profile binary =
    option_map (λ id. (binary.binary_id, id))
    (list_wrapper_of (binary_in matches profile binary) profile)

-- a list wrapper, as a report shows it: the binary's id and the wrapper's
abbrev pub wrapper_view : ListWrapper → List ℕ × Name
wrapper_view wrapper = (string_bytes wrapper.binary, string_bytes wrapper.value)

-- A report lists scripts as a profile gives them to tests and binaries: the setup scripts that the
-- tests enable, in the order in which they run, and the list wrapper of each binary that has one,
-- in the order of the binaries.
pub record AreScriptsReported {M : Type 0} (matches : M → Test → M → Bool)
    (matches_binary : BinaryMatch M) (profile : EvaluatableModel M) (tests : List Test)
    (binaries : List Binary) (told : ListScripts) : Type 0 where
  pub setup_reported : map string_bytes told.setup.items ≡ enabled_ids matches profile tests
  pub wrappers_reported : map wrapper_view told.list_wrappers.items
      ≡ filter_map (wrapper_at matches_binary profile) binaries
