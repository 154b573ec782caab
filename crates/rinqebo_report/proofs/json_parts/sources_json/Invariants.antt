use Rattle.std.proofs.Common.{◌≡◌, map, take}
use Rattle.serde_json.specs.View.{view}
use Rattle.rinqebo_report.specs.Documents.{source_data}
use Rattle.rinqebo_report.proofs.json_parts.sources_json.Given as goal

abbrev pub invariant-loop-source : goal.invariant-loop-source
invariant-loop-source l = map view l.list.items ≡ map source_data (take l.source-index l.sources)
