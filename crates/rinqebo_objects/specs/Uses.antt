-- What the tests of a list use of the scripts of a profile, test by test.
use Rattle.std.specs.Prelude.{◌≡◌, Bool, List, [], ◌∷◌, Option, if◌then◌else◌, map, option_map}
use Rattle.std.specs.List.{AllZip}
use Rattle.nextest_engines.specs.Engines.{Test, test_view}
use Rattle.nextest_scripts.specs.ScriptId.{script_text}
use Rattle.nextest_settings.specs.Deciding.{QueryContext}
use Rattle.nextest_settings.specs.Profile.{EvaluatableModel}
use Rattle.nextest_settings.specs.Queries.{is_enabled_for, query_in}
use Rattle.nextest_tables.specs.Written.{Name}
use Rattle.nextest_tree.specs.Schema.{is_one_of}
use Rattle.rinqebo_objects.specs.Enabling.{Enabling}
use Rattle.rinqebo_objects.specs.Used.{Used, run_wrapper_of}
use Rattle.rinqebo_objects.specs.declared.list_use.ListUse.{ListUse}
use Rattle.rinqebo_objects.specs.declared.script_use.ScriptUse.{ScriptUse}

-- the id of the run wrapper of a test, if it has one
abbrev pub wrapper_in : ScriptUse → Option Name
wrapper_in scripts = option_map (λ id. script_text id.now) scripts.run_wrapper

-- the ids of the setup scripts that a test enables
abbrev pub setup_in : ScriptUse → List Name
setup_in scripts = map (λ id. script_text id.now) scripts.setup.items

-- A test uses scripts as a profile gives them to it: its run wrapper, and exactly those setup scripts
-- that it enables.
pub record IsUseOf {M : Type 0} (query : QueryContext M) (profile : EvaluatableModel M)
    (scripts : ScriptUse) : Type 0 where
  pub wrapper : wrapper_in scripts ≡ run_wrapper_of query profile
  pub enabled : (id : Name)
      → is_one_of (setup_in scripts) id ≡ is_enabled_for query profile.script_rules id

-- tests use scripts as a profile gives them to each
abbrev pub AreUsesIn : {M : Type 0} → (M → Test → M → Bool) → EvaluatableModel M → List Test
    → List ScriptUse → Type 0
AreUsesIn matches profile = AllZip (λ test. IsUseOf (query_in matches profile test) profile)

-- the tests that enable a setup script, by what each of them uses
abbrev pub enabling_by : List ScriptUse → List Test → Enabling
enabling_by [] tests id = []
enabling_by (scripts ∷ uses) [] id = []
enabling_by (scripts ∷ uses) (test ∷ tests) id =
    if is_one_of (setup_in scripts) id then test ∷ enabling_by uses tests id
    else enabling_by uses tests id

-- what a list uses of scripts, if there is a list
abbrev pub used_by : Option ListUse → Option Used
used_by known = option_map (λ (list : ListUse). record {
  enabling = enabling_by list.uses.now (map test_view list.tests.now);
  wrappers = map (λ id. script_text id.now) list.wrappers.now;
}) known
