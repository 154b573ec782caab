use Rattle.std.proofs.Common.{drop}
use Rattle.nextest_tree.specs.View.{nodes_view}
use Rattle.rinqebo_faults.specs.FileNamings.{item_names, naming_place}
use Rattle.rinqebo_faults.proofs.Named.{Left}
use Rattle.rinqebo_faults.proofs.namings.add_items.Given as goal

abbrev pub invariant-loop-place : goal.invariant-loop-place
invariant-loop-place l =
    let each = item_names l.profile (naming_place l.naming) in
    Left l.fn.firsts l.firsts (each l.place (nodes_view (drop l.place l.items))) (each 0 (nodes_view l.items))
