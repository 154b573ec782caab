use Rattle.std.proofs.Common.{◌≡◌, ◌-◌, map}
use Rattle.std.specs.List.{range_with_len}
use Rattle.rinqebo_faults.specs.Edits.{edits_view, with_edits}
use Rattle.rinqebo_faults.specs.Repairs.{left_out_in, parent_edits}
use Rattle.rinqebo_faults.proofs.refusal_repairs.leave_out_parent.Given as goal

abbrev pub invariant-loop-place : goal.invariant-loop-place
invariant-loop-place l =
    with_edits (edits_view l.edits)
    (map (left_out_in l.profile) (range_with_len l.place (l.sources - l.place)))
    ≡ with_edits (edits_view l.fn.edits) (parent_edits l.sources l.profile)
