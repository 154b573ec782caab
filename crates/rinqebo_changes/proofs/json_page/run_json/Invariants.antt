use Rattle.std.proofs.Common.{◌≡◌, map, take}
use Rattle.serde_json.specs.View.{view}
use Rattle.rinqebo_changes.specs.Documents.{change_data}
use Rattle.rinqebo_changes.proofs.json_page.run_json.Given as goal

abbrev pub invariant-loop-row : goal.invariant-loop-row
invariant-loop-row l =
    map view l.list.items ≡ map change_data (take l.row-index l.rows)
