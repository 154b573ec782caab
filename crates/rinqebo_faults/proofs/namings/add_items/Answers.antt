use Rattle.std.proofs.Common.{◌∙◌, ◌+◌, ◌++◌, Some, drop, ap, sym}
use Rattle.std.proofs.lemmas.List.{at_drop_all, at_drop_more}
use Rattle.nextest_tree.specs.Node.{as_text}
use Rattle.nextest_tree.specs.View.{nodes_view, tree_view}
use Rattle.rinqebo_faults.specs.FileNamings.{item_names, name_at, naming_place}
use Rattle.rinqebo_faults.proofs.Named.{left_all, left_more, left_none}
use Rattle.rinqebo_faults.proofs.namings.add_items.Goals as goal

pub loop-place-init : goal.loop-place-init
loop-place-init c = left_all _ _

pub loop-place-preserved : goal.loop-place-preserved
loop-place-preserved c =
    let l = c.loop-place in
    let items = c.args.items.now in
    let place = naming_place c.args.naming in
    let each = item_names c.args.profile.now place in
    let item = c.index-items-place.result in
    left_more _ l.firsts c.add_item.new.firsts
    (name_at c.args.profile.now (record place { item = Some l.place }) (as_text (tree_view item)))
    (each (l.place + 1) (nodes_view (drop (l.place + 1) items))) _ _ l.invariant
    (at_drop_more (λ xs. each l.place (nodes_view xs)) items l.place item c.loop-place-test.true
    ∙ ap (λ x. name_at c.args.profile.now (record place { item = Some l.place }) (as_text (tree_view x))
    ++ each (l.place + 1) (nodes_view (drop (l.place + 1) items))) (sym c.index-items-place.is))
    c.in_ok-add_item.ensures

pub returns : goal.returns
returns c =
    let l = c.loop-place in
    let each = item_names c.args.profile.now (naming_place c.args.naming) in
    left_none _ l.firsts _ _ l.invariant
    (at_drop_all (λ xs. each l.place (nodes_view xs)) c.args.items.now l.place c.loop-place-test.false)
