use Rattle.std.proofs.Common.{◌≡◌, map, take}
use Rattle.serde_json.specs.View.{view}
use Rattle.rinqebo_report.specs.Documents.{entry_data}
use Rattle.rinqebo_report.proofs.json_parts.entries_json.Given as goal

abbrev pub invariant-loop-entry : goal.invariant-loop-entry
invariant-loop-entry l = map view l.list.items ≡ map entry_data (take l.entry-index l.entries)
