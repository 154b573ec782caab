use Rattle.std.proofs.Common.{◌≡◌, List, ◌++◌}
use Rattle.nextest_documents.specs.Displaced.{entries_displaced_by}
use Rattle.nextest_documents.specs.DisplacedView.{displaced_entries_view}
use Rattle.nextest_documents.specs.Merge.{entries_over}
use Rattle.nextest_tree.specs.View.{entries_view}
use Rattle.nextest_documents.proofs.Maps.{Entry}
use Rattle.nextest_documents.proofs.laid.+lay_upon.Given as goal

abbrev pub invariant-unite-loop-key : goal.invariant-unite-loop-key
invariant-unite-loop-key l =
    (done : List Entry) × (l.fn.higher.entries ≡ done ++ l.key-iterator)
    × (entries_view l.lower.entries ≡ entries_over (entries_view done) (entries_view l.initial.lower.entries))
    × (displaced_entries_view l.all_displaced.items
    ≡ entries_displaced_by (entries_view done) (entries_view l.initial.lower.entries))
