use Rattle.std.proofs.Common.{◌≡◌, flat_map, map, take}
use Rattle.serde_json.specs.View.{view}
use Rattle.rinqebo_changes.specs.Documents.{item_data}
use Rattle.rinqebo_changes.proofs.json_page.group_tests_json.Given as goal

abbrev pub invariant-loop-binary : goal.invariant-loop-binary
invariant-loop-binary l =
    map view l.list.items
    ≡ flat_map (λ binary. map item_data binary.items.items) (take l.binary-index l.group.binaries.items)
