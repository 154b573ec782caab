use Rattle.std.proofs.Common.{◌≡◌, drop, map, string_bytes}
use Rattle.std.specs.Prelude.{flat_map}
use Rattle.rinqebo_faults.specs.Edits.{edits_view, with_edits}
use Rattle.rinqebo_faults.specs.Repairs.{parent_edits}
use Rattle.rinqebo_faults.proofs.refusal_repairs.leave_out_cycles.Given as goal

abbrev pub invariant-loop-cycle : goal.invariant-loop-cycle
invariant-loop-cycle l =
    with_edits (edits_view l.edits) (flat_map (parent_edits l.sources)
    (flat_map (λ cycle. map string_bytes cycle.items) (drop l.cycle-index l.cycles)))
    ≡ with_edits (edits_view l.fn.edits) (flat_map (parent_edits l.sources)
    (flat_map (λ cycle. map string_bytes cycle.items) l.cycles))
