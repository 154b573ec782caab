use Rattle.std.proofs.Common.{◌≡◌, map, take}
use Rattle.serde_json.specs.View.{view}
use Rattle.rinqebo_changes.specs.Documents.{group_data}
use Rattle.rinqebo_changes.proofs.json_page.groups_json.Given as goal

abbrev pub invariant-loop-group : goal.invariant-loop-group
invariant-loop-group l =
    map view l.list.items ≡ map group_data (take l.group-index l.groups)
