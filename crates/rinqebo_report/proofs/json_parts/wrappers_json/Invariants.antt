use Rattle.std.proofs.Common.{◌≡◌, map, take}
use Rattle.serde_json.specs.View.{view}
use Rattle.rinqebo_report.specs.Documents.{wrapper_data}
use Rattle.rinqebo_report.proofs.json_parts.wrappers_json.Given as goal

abbrev pub invariant-loop-wrapper : goal.invariant-loop-wrapper
invariant-loop-wrapper l = map view l.list.items ≡ map wrapper_data (take l.wrapper-index l.wrappers)
