use Rattle.std.proofs.Common.{◌≡◌}
use Rattle.nextest_tree.specs.Node.{Entries, EntriesAreSorted}
use Rattle.nextest_tree.specs.View.{entries_view}
use Rattle.nextest_documents.specs.Displaced.{entries_displaced_by}
use Rattle.nextest_documents.specs.DisplacedView.{displaced_entries_view}
use Rattle.nextest_documents.specs.Merge.{entries_over}
use Rattle.nextest_documents.proofs.Parting.{HaveParted}
use Rattle.nextest_documents.proofs.laid.+part.Given as goal

-- some entries were taken off, and the others still lie upon the table
abbrev pub invariant-part_members-loop-key : goal.invariant-part_members-loop-key
invariant-part_members-loop-key l =
    (above below : Entries) → EntriesAreSorted above → EntriesAreSorted below
    → entries_view l.initial.members.entries ≡ entries_over above below
    → displaced_entries_view l.fn.all_displaced.items ≡ entries_displaced_by above below
    → HaveParted above below (entries_view l.higher.entries) (entries_view l.members.entries)
    (displaced_entries_view l.key-iterator.rest.items)
