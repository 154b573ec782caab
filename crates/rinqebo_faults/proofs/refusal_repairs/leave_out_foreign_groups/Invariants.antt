use Rattle.std.proofs.Common.{◌≡◌}
use Rattle.rinqebo_faults.specs.Edits.{edits_view, with_edits}
use Rattle.rinqebo_faults.specs.Repairs.{groups_edits}
use Rattle.rinqebo_faults.proofs.refusal_repairs.leave_out_foreign_groups.Given as goal

abbrev pub invariant-loop-group : goal.invariant-loop-group
invariant-loop-group l =
    with_edits (edits_view l.edits) (groups_edits l.place l.group-iterator)
    ≡ with_edits (edits_view l.fn.edits) (groups_edits l.place l.initial.group-iterator)
