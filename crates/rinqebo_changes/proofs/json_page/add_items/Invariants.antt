use Rattle.std.proofs.Common.{◌≡◌, ◌++◌, map, take}
use Rattle.serde_json.specs.View.{view}
use Rattle.rinqebo_changes.specs.Documents.{item_data}
use Rattle.rinqebo_changes.proofs.json_page.add_items.Given as goal

abbrev pub invariant-loop-item : goal.invariant-loop-item
invariant-loop-item l =
    map view l.list.items ≡ map view l.initial.list.items ++ map item_data (take l.item-index l.items)
