use Rattle.std.proofs.Common.{◌≡◌, map, take}
use Rattle.serde_json.specs.View.{view}
use Rattle.rinqebo_report.specs.Documents.{rule_data}
use Rattle.rinqebo_report.proofs.json_parts.rules_json.Given as goal

abbrev pub invariant-loop-rule : goal.invariant-loop-rule
invariant-loop-rule l = map view l.list.items ≡ map rule_data (take l.rule-index l.rules)
