use Rattle.std.proofs.Common.{◌≡◌, drop}
use Rattle.rinqebo_faults.specs.Edits.{edits_view, with_edits}
use Rattle.rinqebo_faults.specs.Repairs.{sections_edits}
use Rattle.rinqebo_faults.proofs.refusal_repairs.leave_out_sections.Given as goal

abbrev pub invariant-loop-error : goal.invariant-loop-error
invariant-loop-error l =
    with_edits (edits_view l.edits) (sections_edits l.place (drop l.error-index l.errors))
    ≡ with_edits (edits_view l.fn.edits) (sections_edits l.place l.errors)
