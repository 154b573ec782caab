use Rattle.std.proofs.Common.{◌≡◌, drop}
use Rattle.std.specs.BTreeSet.{contains_text}
use Rattle.nextest_tree.specs.View.{nodes_view}
use Rattle.rinqebo_faults.specs.Edits.{edits_view, with_edits}
use Rattle.rinqebo_faults.specs.Repairs.{overrides_edits}
use Rattle.rinqebo_faults.proofs.refusal_repairs.leave_out_groups_of.Given as goal

abbrev pub invariant-loop-index : goal.invariant-loop-index
invariant-loop-index l =
    let each = overrides_edits l.place (contains_text l.marks) l.profile in
    with_edits (edits_view l.edits) (each l.index (nodes_view (drop l.index l.overrides)))
    ≡ with_edits (edits_view l.fn.edits) (each 0 (nodes_view l.overrides))
