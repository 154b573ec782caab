use Rattle.std.proofs.Common.{◌≡◌, map, take}
use Rattle.serde_json.specs.View.{view}
use Rattle.rinqebo_report.specs.Documents.{finding_data}
use Rattle.rinqebo_report.proofs.json_findings.findings_json.Given as goal

abbrev pub invariant-loop-finding : goal.invariant-loop-finding
invariant-loop-finding l = map view l.list.items ≡ map finding_data (take l.finding-index l.findings)
