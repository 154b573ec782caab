use Rattle.std.proofs.Common.{◌≡◌, map, take}
use Rattle.serde_json.specs.View.{view}
use Rattle.rinqebo_report.specs.Documents.{test_id_data}
use Rattle.rinqebo_changes.proofs.json_page.ids_json.Given as goal

abbrev pub invariant-loop-test : goal.invariant-loop-test
invariant-loop-test l =
    map view l.list.items ≡ map test_id_data (take l.test-index l.tests)
