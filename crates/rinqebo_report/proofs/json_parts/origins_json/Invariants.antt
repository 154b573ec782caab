use Rattle.std.proofs.Common.{◌≡◌, map, take}
use Rattle.serde_json.specs.View.{view}
use Rattle.rinqebo_report.specs.Documents.{origin_data}
use Rattle.rinqebo_report.proofs.json_parts.origins_json.Given as goal

abbrev pub invariant-loop-origin : goal.invariant-loop-origin
invariant-loop-origin l = map view l.list.items ≡ map origin_data (take l.origin-index l.origins)
