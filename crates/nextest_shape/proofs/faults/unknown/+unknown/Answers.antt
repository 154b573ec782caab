use Rattle.std.proofs.Common.{◌≡◌, ◌+◌, [], drop, string_bytes, sym, ap, ◌∙◌, subst, OnOk}
use Rattle.std.proofs.lemmas.List.{drop_all}
use Rattle.std.specs.Fmt.{decimal}
use Rattle.nextest_places.specs.declared.step.Step.TheVariants as steps
use Rattle.nextest_tree.specs.Key.{key_text}
use Rattle.nextest_tree.specs.Node.{get}
use Rattle.nextest_tree.specs.Schema.{below, each_entry, each_item, field_unknown, fields_unknown, names_of, others_unknown, unknown}
use Rattle.nextest_tree.specs.View.{tree_view, entries_view, nodes_view}
use Rattle.nextest_shape.specs.Faults.Found.{Adds, path_text, refused_at, step_text}
use Rattle.nextest_shape.specs.Faults.Places.{fields_view, others_view, place_view}
use Rattle.nextest_shape.proofs.faults.Adding.{adds_more, adds_none, left_more, left_none}
use Rattle.nextest_shape.proofs.faults.Listed.{fields_next, items_next}
use Rattle.nextest_shape.proofs.faults.UnknownKeys.{entry_unknown, field_there, field_without, of_no_list, of_no_map, of_no_table, refused_more}
use Rattle.nextest_shape.proofs.faults.Views.{of_anything, of_leaf, of_list, of_map, of_table}
use Rattle.nextest_shape.proofs.faults.unknown.+unknown.Goals as goal

pub add_fields-loop-field-preserved : goal.add_fields-loop-field-preserved
add_fields-loop-field-preserved t c =
    let l = c.loop-field in
    let fields = c.deref-field-items.result.now in
    let field = c.field-item.result in
    let p = path_text c.args.path.now in
    let es = entries_view c.args.members.now.entries in
    let here = field_unknown field.key (unknown (place_view field.place)) p (get (key_text field.key) es) in
    let rest = fields_unknown (fields_view (drop (l.field-index + 1) fields)) p es in
    left_more _ l.found.items c.add_field.new.found.items (refused_at here) (refused_at rest) _ _ l.invariant
    (ap (λ fs. refused_at (fields_unknown fs p es))
    (fields_next fields l.field-index field c.loop-field-test.true c.field-item.is)
    ∙ refused_more here rest)
    c.in_ok-add_field.ensures

pub add_fields-returns : goal.add_fields-returns
add_fields-returns t c =
    let l = c.loop-field in
    let fields = c.deref-field-items.result.now in
    let p = path_text c.args.path.now in
    let es = entries_view c.args.members.now.entries in
    let none : refused_at (fields_unknown (fields_view (drop l.field-index fields)) p es) ≡ [] =
    ap (λ fs. refused_at (fields_unknown (fields_view fs) p es)) (drop_all l.field-index fields c.loop-field-test.false) in
    subst (λ fs. Adds c.args.found.now.items l.found.items (refused_at (fields_unknown (fields_view fs) p es)))
    c.deref-field-items.ensures.value (left_none _ l.found.items _ _ l.invariant none)

pub add_entries-loop-key-preserved : goal.add_entries-loop-key-preserved
add_entries-loop-key-preserved t c =
    let l = c.loop-key in
    let each = entry_unknown (place_view c.args.values.now) (path_text c.args.path.now) in
    let k = string_bytes c.in-Some.key.now in
    let n = tree_view c.in-Some.tree.now in
    let next = entries_view c.next.new.self in
    let added : Adds l.found.items c.add_below.new.found.items (refused_at (each k n)) =
    rw (← c.as_str.ensures.value) c.in_ok-add_below.ensures in
    left_more _ l.found.items c.add_below.new.found.items (refused_at (each k n)) (refused_at (each_entry each next)) _ _
    l.invariant
    (ap (λ es. refused_at (each_entry each (entries_view es))) c.in-Some.ensures.steps
    ∙ refused_more (each k n) (each_entry each next)) added

pub add_entries-returns : goal.add_entries-returns
add_entries-returns t c =
    let l = c.loop-key in
    let each = entry_unknown (place_view c.args.values.now) (path_text c.args.path.now) in
    left_none _ l.found.items _ _ l.invariant
    (ap (λ es. refused_at (each_entry each (entries_view es))) c.in-None.ensures.steps.0)

pub add_items-loop-position-preserved : goal.add_items-loop-position-preserved
add_items-loop-position-preserved t c =
    let l = c.loop-position in
    let values = c.args.values.now in
    let item = c.index-values-position.result in
    let each = unknown (place_view c.args.items.now) in
    let p = path_text c.args.path.now in
    let here = each (below p (decimal l.position)) (tree_view item) in
    let rest = each_item each p (l.position + 1) (nodes_view (drop (l.position + 1) values)) in
    left_more _ l.found.items c.add_below.new.found.items (refused_at here) (refused_at rest) _ _ l.invariant
    (ap refused_at (items_next each p values l.position item c.loop-position-test.true c.index-values-position.is)
    ∙ refused_more here rest)
    c.in_ok-add_below.ensures

pub add_items-returns : goal.add_items-returns
add_items-returns t c =
    let l = c.loop-position in
    let each = each_item (unknown (place_view c.args.items.now)) (path_text c.args.path.now) l.position in
    left_none _ l.found.items _ _ l.invariant
    (ap (λ ts. refused_at (each (nodes_view ts))) (drop_all l.position c.args.values.now c.loop-position-test.false))

pub add_table-returns : goal.add_table-returns
add_table-returns t c =
    let fs = fields_view c.args.fields.now.items in
    let p = path_text c.args.path.now in
    let es = entries_view c.args.members.now.entries in
    let how = others_view c.args.others in
    let one = c.add_fields.new.found.items in
    let two = c.add_noted.new.found.items in
    let inner = fields_unknown fs p es in
    let own = others_unknown how (names_of fs) p es in
    let last : Adds one two (refused_at own) =
    subst (λ xs. Adds one two (refused_at (others_unknown how (names_of (fields_view xs)) p es)))
    c.deref.ensures.value c.in_ok-add_noted.ensures in
    subst (Adds c.args.found.now.items two) (sym (refused_more inner own))
    (adds_more _ one two (refused_at inner) (refused_at own) c.in_ok-add_fields.ensures last)

pub add_unknown_keys-returns-in-Anything : goal.add_unknown_keys-returns-in-Anything
add_unknown_keys-returns-in-Anything t c =
    let p = path_text c.args.path.now in
    subst (λ ps. Adds c.args.found.now.items c.args.found.now.items (refused_at ps))
    (of_anything unknown c.args.place.now p (tree_view c.args.tree.now) c.in-Anything.is) (adds_none c.args.found.now.items)

pub add_unknown_keys-returns-in-Leaf : goal.add_unknown_keys-returns-in-Leaf
add_unknown_keys-returns-in-Leaf t c =
    let p = path_text c.args.path.now in
    subst (λ ps. Adds c.args.found.now.items c.args.found.now.items (refused_at ps))
    (of_leaf unknown c.args.place.now p c.in-Leaf.field-0 (tree_view c.args.tree.now) c.in-Leaf.is)
    (adds_none c.args.found.now.items)

pub add_unknown_keys-returns-in-Some : goal.add_unknown_keys-returns-in-Some
add_unknown_keys-returns-in-Some t c =
    let p = path_text c.args.path.now in
    let n = tree_view c.args.tree.now in
    subst (λ ps. OnOk c.add_table.result (Adds c.args.found.now.items c.add_table.new.found.items (refused_at ps)))
    (of_table unknown c.args.place.now p c.in-Table.others c.in-Table.other c.in-Table.fields c.in-Table.across n
    (entries_view c.in-Some.members.now.entries) c.in-Table.is c.in-Some.ensures)
    c.add_table.ensures

pub add_unknown_keys-returns-in-None : goal.add_unknown_keys-returns-in-None
add_unknown_keys-returns-in-None t c =
    let p = path_text c.args.path.now in
    let n = tree_view c.args.tree.now in
    subst (λ ps. OnOk c.add_unknown_keys.result
    (Adds c.args.found.now.items c.add_unknown_keys.new.found.items (refused_at ps)))
    (ap (λ s. unknown (place_view s) p n) c.deref.ensures
    ∙ of_no_table c.args.place.now p c.in-Table.others c.in-Table.other c.in-Table.fields c.in-Table.across n
    c.in-Table.is (sym c.in-None.ensures))
    c.add_unknown_keys.ensures

pub add_unknown_keys-returns-in-Some-as_table : goal.add_unknown_keys-returns-in-Some-as_table
add_unknown_keys-returns-in-Some-as_table t c =
    let p = path_text c.args.path.now in
    let n = tree_view c.args.tree.now in
    let es = entries_view c.in-Some-as_table.members.now.entries in
    subst (λ ps. OnOk c.add_entries.result (Adds c.args.found.now.items c.add_entries.new.found.items (refused_at ps)))
    (ap (λ s. each_entry (entry_unknown (place_view s) p) es) c.deref-in-Some-as_table.ensures
    ∙ of_map unknown c.args.place.now p c.in-Map.names c.in-Map.values n es c.in-Map.is c.in-Some-as_table.ensures)
    c.add_entries.ensures

pub add_unknown_keys-returns-in-None-as_table : goal.add_unknown_keys-returns-in-None-as_table
add_unknown_keys-returns-in-None-as_table t c =
    let p = path_text c.args.path.now in
    let n = tree_view c.args.tree.now in
    subst (λ ps. Adds c.args.found.now.items c.args.found.now.items (refused_at ps))
    (of_no_map c.args.place.now p c.in-Map.names c.in-Map.values n c.in-Map.is (sym c.in-None-as_table.ensures))
    (adds_none c.args.found.now.items)

pub add_unknown_keys-returns-in-Some-as_array : goal.add_unknown_keys-returns-in-Some-as_array
add_unknown_keys-returns-in-Some-as_array t c =
    let p = path_text c.args.path.now in
    let n = tree_view c.args.tree.now in
    let ns = nodes_view c.in-Some-as_array.values.now in
    subst (λ ps. OnOk c.add_items.result (Adds c.args.found.now.items c.add_items.new.found.items (refused_at ps)))
    (ap (λ s. each_item (unknown (place_view s)) p 0 ns) c.deref-in-Some-as_array.ensures
    ∙ of_list unknown c.args.place.now p c.in-List.other c.in-List.items c.in-List.across n ns c.in-List.is
    c.in-Some-as_array.ensures)
    c.add_items.ensures

pub add_unknown_keys-returns-in-None-as_array : goal.add_unknown_keys-returns-in-None-as_array
add_unknown_keys-returns-in-None-as_array t c =
    let p = path_text c.args.path.now in
    let n = tree_view c.args.tree.now in
    subst (λ ps. OnOk c.add_unknown_keys-in-None-as_array.result
    (Adds c.args.found.now.items c.add_unknown_keys-in-None-as_array.new.found.items (refused_at ps)))
    (ap (λ s. unknown (place_view s) p n) c.deref-in-None-as_array.ensures
    ∙ of_no_list c.args.place.now p c.in-List.other c.in-List.items c.in-List.across n c.in-List.is
    (sym c.in-None-as_array.ensures))
    c.add_unknown_keys-in-None-as_array.ensures

pub add_field-returns-in-Some : goal.add_field-returns-in-Some
add_field-returns-in-Some t c =
    let p = path_text c.args.path.now in
    subst (λ ps. OnOk c.add_below.result (Adds c.args.found.now.items c.add_below.new.found.items (refused_at ps)))
    (field_there c.args.key (unknown (place_view c.args.place.now)) p (below p (step_text (steps.Key c.text.result)))
    (tree_view c.in-Some.tree.now) (get (key_text c.args.key) (entries_view c.args.members.now.entries))
    (sym c.in-Some.ensures) (ap (below p) c.text.ensures))
    c.add_below.ensures

pub add_field-returns-in-None : goal.add_field-returns-in-None
add_field-returns-in-None t c =
    let p = path_text c.args.path.now in
    let es = entries_view c.args.members.now.entries in
    subst (λ ps. Adds c.args.found.now.items c.args.found.now.items (refused_at ps))
    (field_without c.args.key (unknown (place_view c.args.place.now)) p (get (key_text c.args.key) es) c.in-None.ensures)
    (adds_none c.args.found.now.items)
