-- Which tests of a list enable a setup script.
use Rattle.std.specs.Prelude.{Bool, List, codes, filter}
use Rattle.nextest_engines.specs.Engines.{Test}
use Rattle.nextest_settings.specs.Profile.{EvaluatableModel}
use Rattle.nextest_settings.specs.Queries.{is_enabled_for, query_in}
use Rattle.nextest_tables.specs.Written.{Name}
use Rattle.serde_json.specs.Data.{Data, string, object, no_members, member}

-- the tests that enable each setup script, by its id
abbrev pub Enabling : Type 0
Enabling = Name → List Test

-- the tests that enable a setup script in a profile, in their order: those for which a script rule
-- holds that names it
abbrev pub tests_enabling : {M : Type 0} → (M → Test → M → Bool) → EvaluatableModel M → List Test
    → Enabling
tests_enabling matches profile tests id =
    filter (λ test. is_enabled_for (query_in matches profile test) profile.script_rules id) tests

-- a test by its binary and its name
abbrev pub test_data : Test → Data
test_data test =
    object (member (codes "binary-id") (string test.binary.binary_id)
    (member (codes "name") (string test.name) no_members))
