use Rattle.std.proofs.Common.{◌≡◌, map, take}
use Rattle.serde_json.specs.View.{view}
use Rattle.rinqebo_report.specs.Documents.{unreached_data}
use Rattle.rinqebo_report.proofs.json_parts.all_unreached_json.Given as goal

abbrev pub invariant-loop-unreached : goal.invariant-loop-unreached
invariant-loop-unreached l = map view l.list.items ≡ map unreached_data (take l.unreached-index l.all)
