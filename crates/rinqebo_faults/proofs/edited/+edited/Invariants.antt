use Rattle.std.proofs.Common.{◌≡◌, List, ◌++◌, flat_map, string_bytes, take}
use Rattle.nextest_tree.specs.View.{entries_view, nodes_view}
use Rattle.rinqebo_faults.specs.Edited.{entry_texts, item_text, item_texts, separated}
use Rattle.rinqebo_faults.specs.Edits.{edits_view}
use Rattle.rinqebo_faults.proofs.EditedTexts.{Member}
use Rattle.rinqebo_faults.proofs.edited.+edited.Given as goal

-- the items so far
abbrev pub invariant-edited_items-loop-position : goal.invariant-edited_items-loop-position
invariant-edited_items-loop-position l =
    string_bytes l.text
    ≡ flat_map item_text (item_texts (edits_view l.edits) l.mark 0 (nodes_view (take l.position l.items)))

-- the entries so far
abbrev pub invariant-edited_members-loop-key : goal.invariant-edited_members-loop-key
invariant-edited_members-loop-key l =
    (done : List Member) × (l.members.entries ≡ done ++ l.key-iterator)
    × (string_bytes l.text ≡ separated l.separator (entry_texts (edits_view l.edits) l.mark (entries_view done)))
