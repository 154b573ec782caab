use Rattle.std.proofs.Common.{◌≡◌}
use Rattle.rinqebo_faults.specs.Edits.{edits_view, with_edits}
use Rattle.rinqebo_faults.specs.Repairs.{scripts_edits}
use Rattle.rinqebo_faults.proofs.refusal_repairs.leave_out_scripts.Given as goal

abbrev pub invariant-loop-script : goal.invariant-loop-script
invariant-loop-script l =
    with_edits (edits_view l.edits) (scripts_edits l.place l.script-iterator)
    ≡ with_edits (edits_view l.fn.edits) (scripts_edits l.place l.initial.script-iterator)
