use Rattle.std.proofs.Common.{cond, ◌≡◌, ◌+◌, [], ◌++◌, drop, string_bytes, Some, refl, sym, ap, ◌∙◌, subst, OnOk}
use Rattle.std.proofs.lemmas.List.{drop_all}
use Rattle.nextest_places.specs.declared.step.Step.TheVariants as steps
use Rattle.nextest_tree.specs.Key.{key_text}
use Rattle.nextest_tree.specs.Node.{get}
use Rattle.nextest_tree.specs.Schema.{at, below, each_entry, each_item, faults, field_faults, fields_faults, names_of, missing, others_faults, wrong_kind}
use Rattle.nextest_tree.specs.View.{tree_view, entries_view, nodes_view}
use Rattle.nextest_shape.specs.Faults.Found.{Adds, path_text, step_text}
use Rattle.nextest_shape.specs.Faults.Places.{across_test, fields_view, items_test, leaf_test, names_test, need_test, others_view, place_view}
use Rattle.nextest_shape.proofs.faults.Adding.{adds_more, adds_none, left_more, left_none}
use Rattle.nextest_shape.proofs.faults.Listed.{entry_faults, field_there, field_without, fields_next, items_next}
use Rattle.nextest_shape.proofs.faults.Views.{of_anything, of_leaf, of_list, of_map, of_no_list, of_no_map, of_no_table, of_table}
use Rattle.nextest_shape.proofs.faults.listing.+listing.Goals as goal

pub add_fields-loop-field-preserved : goal.add_fields-loop-field-preserved
add_fields-loop-field-preserved t c =
    let l = c.loop-field in
    let fields = c.deref-field-items.result.now in
    let field = c.field-item.result in
    let p = path_text c.args.path.now in
    let es = entries_view c.args.members.now.entries in
    left_more _ l.found.items c.add_field.new.found.items
    (field_faults field.key (need_test field.need es) (faults (place_view field.place)) p (get (key_text field.key) es))
    (fields_faults (fields_view (drop (l.field-index + 1) fields)) p es) _ _ l.invariant
    (ap (λ fs. fields_faults fs p es)
    (fields_next fields l.field-index field c.loop-field-test.true c.field-item.is))
    c.in_ok-add_field.ensures

pub add_fields-returns : goal.add_fields-returns
add_fields-returns t c =
    let l = c.loop-field in
    let fields = c.deref-field-items.result.now in
    let p = path_text c.args.path.now in
    let es = entries_view c.args.members.now.entries in
    let none : fields_faults (fields_view (drop l.field-index fields)) p es ≡ [] =
    ap (λ fs. fields_faults (fields_view fs) p es) (drop_all l.field-index fields c.loop-field-test.false) in
    subst (λ fs. Adds c.args.found.now.items l.found.items (fields_faults (fields_view fs) p es))
    c.deref-field-items.ensures.value (left_none _ l.found.items _ _ l.invariant none)

pub add_entries-loop-key-preserved : goal.add_entries-loop-key-preserved
add_entries-loop-key-preserved t c =
    let l = c.loop-key in
    let each = entry_faults (names_test c.args.names) (place_view c.args.values.now) (path_text c.args.path.now) in
    let k = string_bytes c.in-Some.key.now in
    let n = tree_view c.in-Some.tree.now in
    let next = entries_view c.next.new.self in
    let added : Adds l.found.items c.add_entry.new.found.items (each k n) =
    rw (← c.as_str.ensures.value) c.in_ok-add_entry.ensures in
    left_more _ l.found.items c.add_entry.new.found.items (each k n) (each_entry each next) _ _ l.invariant
    (ap (λ es. each_entry each (entries_view es)) c.in-Some.ensures.steps) added

pub add_entries-returns : goal.add_entries-returns
add_entries-returns t c =
    let l = c.loop-key in
    let each = entry_faults (names_test c.args.names) (place_view c.args.values.now) (path_text c.args.path.now) in
    left_none _ l.found.items _ _ l.invariant
    (ap (λ es. each_entry each (entries_view es)) c.in-None.ensures.steps.0)

pub add_items-loop-position-preserved : goal.add_items-loop-position-preserved
add_items-loop-position-preserved t c =
    let l = c.loop-position in
    let values = c.args.values.now in
    let each = faults (place_view c.args.items.now) in
    let p = path_text c.args.path.now in
    left_more _ l.found.items c.add_below.new.found.items _
    (each_item each p (l.position + 1) (nodes_view (drop (l.position + 1) values))) _ _ l.invariant
    (items_next each p values l.position c.index-values-position.result c.loop-position-test.true
    c.index-values-position.is)
    c.in_ok-add_below.ensures

pub add_items-returns : goal.add_items-returns
add_items-returns t c =
    let l = c.loop-position in
    let each = each_item (faults (place_view c.args.items.now)) (path_text c.args.path.now) l.position in
    left_none _ l.found.items _ _ l.invariant
    (ap (λ ts. each (nodes_view ts)) (drop_all l.position c.args.values.now c.loop-position-test.false))

pub add_table-returns : goal.add_table-returns
add_table-returns t c =
    let fs = fields_view c.args.fields.now.items in
    let p = path_text c.args.path.now in
    let es = entries_view c.args.members.now.entries in
    let how = others_view c.args.others in
    let test = across_test c.args.across es in
    let one = c.add_others.new.found.items in
    let two = c.add_fields.new.found.items in
    let three = c.add_at.new.found.items in
    let first : Adds c.args.found.now.items one (others_faults how (names_of fs) p es) =
    subst (λ xs. Adds c.args.found.now.items one (others_faults how (names_of (fields_view xs)) p es))
    c.deref.ensures.value c.in_ok-add_others.ensures in
    adds_more _ one three _ (fields_faults fs p es ++ at p test) first
    (adds_more one two three _ (at p test) c.in_ok-add_fields.ensures (c.in_ok-add_at.ensures test c.cause.ensures))

pub add_list-returns : goal.add_list-returns
add_list-returns t c =
    let p = path_text c.args.path.now in
    let ns = nodes_view c.args.values.now in
    let test = items_test c.args.across ns in
    adds_more _ c.add_items.new.found.items c.add_at.new.found.items _ (at p test) c.in_ok-add_items.ensures
    (c.in_ok-add_at.ensures test c.cause.ensures)

pub add_faults-returns-in-Anything : goal.add_faults-returns-in-Anything
add_faults-returns-in-Anything t c =
    let p = path_text c.args.path.now in
    subst (Adds c.args.found.now.items c.args.found.now.items)
    (of_anything faults c.args.place.now p (tree_view c.args.tree.now) c.in-Anything.is) (adds_none c.args.found.now.items)

pub add_faults-returns-in_ok-cause-in-Leaf : goal.add_faults-returns-in_ok-cause-in-Leaf
add_faults-returns-in_ok-cause-in-Leaf t c =
    let p = path_text c.args.path.now in
    let n = tree_view c.args.tree.now in
    subst (λ fs. OnOk c.add_at.result (Adds c.args.found.now.items c.add_at.new.found.items fs))
    (of_leaf faults c.args.place.now p c.in-Leaf.leaf n c.in-Leaf.is)
    (c.add_at.ensures (leaf_test c.in-Leaf.leaf n) c.in_ok-cause-in-Leaf.ensures)

pub add_faults-returns-in-Some : goal.add_faults-returns-in-Some
add_faults-returns-in-Some t c =
    let p = path_text c.args.path.now in
    let n = tree_view c.args.tree.now in
    subst (λ fs. OnOk c.add_table.result (Adds c.args.found.now.items c.add_table.new.found.items fs))
    (of_table faults c.args.place.now p c.in-Table.others c.in-Table.other c.in-Table.fields c.in-Table.across n
    (entries_view c.in-Some.members.now.entries) c.in-Table.is c.in-Some.ensures)
    c.add_table.ensures

pub add_faults-returns-in-None : goal.add_faults-returns-in-None
add_faults-returns-in-None t c =
    let p = path_text c.args.path.now in
    let n = tree_view c.args.tree.now in
    subst (λ fs. OnOk c.add_faults.result (Adds c.args.found.now.items c.add_faults.new.found.items fs))
    (ap (λ s. faults (place_view s) p n) c.deref.ensures
    ∙ of_no_table c.args.place.now p c.in-Table.others c.in-Table.other c.in-Table.fields c.in-Table.across n
    c.in-Table.is (sym c.in-None.ensures))
    c.add_faults.ensures

pub add_faults-returns-in-Some-as_table : goal.add_faults-returns-in-Some-as_table
add_faults-returns-in-Some-as_table t c =
    let p = path_text c.args.path.now in
    let n = tree_view c.args.tree.now in
    let es = entries_view c.in-Some-as_table.members.now.entries in
    subst (λ fs. OnOk c.add_entries.result (Adds c.args.found.now.items c.add_entries.new.found.items fs))
    (ap (λ s. each_entry (entry_faults (names_test c.in-Map.names) (place_view s) p) es)
    c.deref-in-Some-as_table.ensures
    ∙ of_map faults c.args.place.now p c.in-Map.names c.in-Map.values n es c.in-Map.is c.in-Some-as_table.ensures)
    c.add_entries.ensures

pub add_faults-returns-in-None-as_table : goal.add_faults-returns-in-None-as_table
add_faults-returns-in-None-as_table t c =
    let p = path_text c.args.path.now in
    let n = tree_view c.args.tree.now in
    subst (λ fs. OnOk c.add_at-in-None-as_table.result
    (Adds c.args.found.now.items c.add_at-in-None-as_table.new.found.items fs))
    (of_no_map c.args.place.now p c.in-Map.names c.in-Map.values n c.in-Map.is (sym c.in-None-as_table.ensures))
    (c.add_at-in-None-as_table.ensures (Some wrong_kind)
    (record { cause = wrong_kind; seen = refl; meant = refl }))

pub add_faults-returns-in-Some-as_array : goal.add_faults-returns-in-Some-as_array
add_faults-returns-in-Some-as_array t c =
    let p = path_text c.args.path.now in
    let n = tree_view c.args.tree.now in
    let ns = nodes_view c.in-Some-as_array.values.now in
    subst (λ fs. OnOk c.add_list.result (Adds c.args.found.now.items c.add_list.new.found.items fs))
    (ap (λ s. each_item (faults (place_view s)) p 0 ns ++ at p (items_test c.in-List.across ns))
    c.deref-in-Some-as_array.ensures
    ∙ of_list faults c.args.place.now p c.in-List.other c.in-List.items c.in-List.across n ns c.in-List.is
    c.in-Some-as_array.ensures)
    c.add_list.ensures

pub add_faults-returns-in-None-as_array : goal.add_faults-returns-in-None-as_array
add_faults-returns-in-None-as_array t c =
    let p = path_text c.args.path.now in
    let n = tree_view c.args.tree.now in
    subst (λ fs. OnOk c.add_faults-in-None-as_array.result
    (Adds c.args.found.now.items c.add_faults-in-None-as_array.new.found.items fs))
    (ap (λ s. faults (place_view s) p n) c.deref-in-None-as_array.ensures
    ∙ of_no_list c.args.place.now p c.in-List.other c.in-List.items c.in-List.across n c.in-List.is
    (sym c.in-None-as_array.ensures))
    c.add_faults-in-None-as_array.ensures

pub add_field-returns-in-Some : goal.add_field-returns-in-Some
add_field-returns-in-Some t c =
    let p = path_text c.args.path.now in
    let es = entries_view c.args.members.now.entries in
    let k = key_text c.args.key in
    subst (λ fs. OnOk c.add_below.result (Adds c.args.found.now.items c.add_below.new.found.items fs))
    (field_there c.args.key (need_test c.args.need es) (faults (place_view c.args.place.now)) p
    (below p (step_text (steps.Key c.text.result))) (tree_view c.in-Some.tree.now) (get k es) (sym c.in-Some.ensures)
    (ap (below p) c.text.ensures))
    c.add_below.ensures

pub add_field-returns-in-None : goal.add_field-returns-in-None
add_field-returns-in-None t c =
    let p = path_text c.args.path.now in
    let es = entries_view c.args.members.now.entries in
    let k = key_text c.args.key in
    subst (λ fs. OnOk c.add_absent.result (Adds c.args.found.now.items c.add_absent.new.found.items fs))
    (ap (λ b. cond b (at p (Some (missing k))) []) c.holds_in.ensures
    ∙ field_without c.args.key (need_test c.args.need es) (faults (place_view c.args.place.now)) p (get k es)
    c.in-None.ensures)
    c.add_absent.ensures
