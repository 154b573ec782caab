use Rattle.std.proofs.Common.{◌≡◌, drop, map, string_bytes}
use Rattle.std.specs.Prelude.{flat_map}
use Rattle.rinqebo_faults.specs.Edits.{edits_view, with_edits}
use Rattle.rinqebo_faults.specs.Repairs.{parent_edits}
use Rattle.rinqebo_faults.proofs.refusal_repairs.leave_out_each.Given as goal

abbrev pub invariant-loop-profile : goal.invariant-loop-profile
invariant-loop-profile l =
    with_edits (edits_view l.edits)
    (flat_map (parent_edits l.sources) (map string_bytes (drop l.profile-index l.profiles)))
    ≡ with_edits (edits_view l.fn.edits)
    (flat_map (parent_edits l.sources) (map string_bytes l.profiles))
