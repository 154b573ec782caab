use Rattle.std.proofs.Common.{◌≡◌, map, take}
use Rattle.serde_json.specs.View.{view}
use Rattle.rinqebo_report.specs.Documents.{test_data}
use Rattle.rinqebo_report.proofs.json_parts.tests_json.Given as goal

abbrev pub invariant-loop-test : goal.invariant-loop-test
invariant-loop-test l = map view l.list.items ≡ map test_data (take l.test-index l.tests)
