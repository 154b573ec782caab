use Rattle.std.proofs.Common.{[], ◌∷◌, ◌++◌, ap, append_assoc, option_map, string_bytes, sym, ◌∙◌}
use Rattle.std.specs.Option.{option_copied}
use Rattle.nextest_tree.specs.View.{tree_view}
use Rattle.rinqebo_faults.specs.Edited.{entry_text, with_part}
use Rattle.rinqebo_faults.specs.Edits.{edits_view}
use Rattle.rinqebo_faults.proofs.EditedTexts.{Member, all_entries, one_entry, one_item, value_of}
use Rattle.rinqebo_faults.proofs.edited.+edited.Goals as goal

pub edited_members-loop-key-preserved : goal.edited_members-loop-key-preserved
edited_members-loop-key-preserved t c =
    let l = c.loop-key in
    let done = l.invariant.0 in
    let e : Member = (c.in-Some.key.now, c.in-Some.tree.now) in
    let left = c.next.new.self in
    let edits = edits_view c.args.edits.now in
    let mark = c.args.mark.now in
    let separator = c.args.separator.now in
    let value = option_map string_bytes c.in_ok-value.value in
    let named = c.as_str-name.ensures.value in (
      done ++ e ∷ [],
      l.invariant.1 ∙ ap (λ es. done ++ es) c.in-Some.ensures.steps ∙ sym (append_assoc done (e ∷ []) left),
      one_entry edits separator mark done e (string_bytes l.text) (string_bytes c.add_entry.new.text) value
          l.invariant.2
          (c.in_ok-value.ensures ∙ ap (λ k. value_of edits mark k (tree_view e.1)) named)
          (c.in_ok-add_entry.ensures
          ∙ ap (λ k. with_part separator (string_bytes l.text) (option_map (entry_text k) value)) named),
    )

pub edited_items-loop-position-preserved : goal.edited_items-loop-position-preserved
edited_items-loop-position-preserved t c =
    let l = c.loop-position in
    let item = c.index-items-position.result in
    one_item (edits_view c.args.edits.now) c.args.mark.now c.args.items.now l.position item item
    (string_bytes l.text) (string_bytes c.add_item.new.text) (option_map string_bytes c.in_ok-value.value)
    c.loop-position-test.true c.index-items-position.is l.invariant c.in_ok-value.ensures c.in_ok-add_item.ensures

pub edited_members-returns : goal.edited_members-returns
edited_members-returns t c =
    let l = c.loop-key in
    all_entries (edits_view c.args.edits.now) c.args.separator.now c.args.mark.now c.args.members.now.entries
    l.invariant.0 l.key-iterator (string_bytes l.text) (string_bytes c.add_part.new.text)
    (option_copied c.additions.result) _ l.invariant.1 c.in-None.ensures.steps.0 l.invariant.2 c.additions.ensures
    c.in_ok-add_part.ensures
