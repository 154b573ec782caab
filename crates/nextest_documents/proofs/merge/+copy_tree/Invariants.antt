use Rattle.std.proofs.Common.{◌≡◌, List, ◌++◌, take, map}
use Rattle.nextest_tree.specs.View.{tree_view, entries_view}
use Rattle.nextest_documents.proofs.Maps.{Entry}
use Rattle.nextest_documents.proofs.merge.+copy_tree.Given as goal

abbrev pub invariant-copy_items-loop-item : goal.invariant-copy_items-loop-item
invariant-copy_items-loop-item l = map tree_view l.copies.items ≡ map tree_view (take l.item-index l.items)

abbrev pub invariant-copy_members-loop-key : goal.invariant-copy_members-loop-key
invariant-copy_members-loop-key l =
    (done : List Entry) × (l.members.entries ≡ done ++ l.key-iterator)
    × (entries_view l.copies.entries ≡ entries_view done)
