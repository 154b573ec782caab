use Rattle.std.proofs.Common.{drop}
use Rattle.nextest_tree.specs.Schema.{each_entry, each_item, fields_unknown, unknown}
use Rattle.nextest_tree.specs.View.{entries_view, nodes_view}
use Rattle.nextest_shape.specs.Faults.Found.{path_text, refused_at}
use Rattle.nextest_shape.specs.Faults.Places.{fields_view, place_view}
use Rattle.nextest_shape.proofs.faults.Adding.{Left}
use Rattle.nextest_shape.proofs.faults.UnknownKeys.{entry_unknown}
use Rattle.nextest_shape.proofs.faults.unknown.+unknown.Given as goal

-- the fields that are left
abbrev pub invariant-add_fields-loop-field : goal.invariant-add_fields-loop-field
invariant-add_fields-loop-field l =
    let p = path_text l.path in
    let es = entries_view l.members.entries in
    Left l.fn.found.items l.found.items
    (refused_at (fields_unknown (fields_view (drop l.field-index l.field-items)) p es))
    (refused_at (fields_unknown (fields_view l.field-items) p es))

-- the entries that are left
abbrev pub invariant-add_entries-loop-key : goal.invariant-add_entries-loop-key
invariant-add_entries-loop-key l =
    let each = each_entry (entry_unknown (place_view l.values) (path_text l.path)) in
    Left l.fn.found.items l.found.items (refused_at (each (entries_view l.key-iterator)))
    (refused_at (each (entries_view l.members.entries)))

-- the items that are left
abbrev pub invariant-add_items-loop-position : goal.invariant-add_items-loop-position
invariant-add_items-loop-position l =
    let each = each_item (unknown (place_view l.items)) (path_text l.path) in
    Left l.fn.found.items l.found.items (refused_at (each l.position (nodes_view (drop l.position l.values))))
    (refused_at (each 0 (nodes_view l.values)))
