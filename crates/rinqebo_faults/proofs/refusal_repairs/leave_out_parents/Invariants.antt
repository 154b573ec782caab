use Rattle.std.proofs.Common.{◌≡◌, drop}
use Rattle.rinqebo_faults.specs.Edits.{edits_view, with_edits}
use Rattle.rinqebo_faults.specs.Repairs.{parents_edits}
use Rattle.rinqebo_faults.proofs.refusal_repairs.leave_out_parents.Given as goal

abbrev pub invariant-loop-error : goal.invariant-loop-error
invariant-loop-error l =
    with_edits (edits_view l.edits) (parents_edits l.sources (drop l.error-index l.errors))
    ≡ with_edits (edits_view l.fn.edits) (parents_edits l.sources l.errors)
