use Rattle.std.proofs.Common.{◌≡◌, map, take}
use Rattle.serde_json.specs.View.{view}
use Rattle.rinqebo_report.specs.Documents.{step_data}
use Rattle.rinqebo_report.proofs.json_findings.steps_json.Given as goal

abbrev pub invariant-loop-step : goal.invariant-loop-step
invariant-loop-step l = map view l.list.items ≡ map step_data (take l.step-index l.steps)
