use Rattle.std.proofs.Common.{◌≡◌, ◌++◌, drop, map}
use Rattle.nextest_engines.specs.Engines.{test_view}
use Rattle.nextest_scripts.specs.ScriptId.{script_text}
use Rattle.serde_json.specs.View.{view}
use Rattle.rinqebo_objects.specs.Enabling.{test_data}
use Rattle.rinqebo_objects.specs.Uses.{enabling_by}
use Rattle.rinqebo_objects.proofs.enabling.tests_json.Given as goal

-- the tests so far, with those that are left
abbrev pub invariant-loop-number : goal.invariant-loop-number
invariant-loop-number l =
    map view l.list.items
    ++ map test_data (enabling_by (drop l.number l.uses) (map test_view (drop l.number l.tests)) (script_text l.id))
    ≡ map test_data (enabling_by l.uses (map test_view l.tests) (script_text l.id))
