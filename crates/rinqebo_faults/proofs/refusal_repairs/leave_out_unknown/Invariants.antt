use Rattle.std.proofs.Common.{◌≡◌, drop, map, string_bytes}
use Rattle.rinqebo_faults.specs.Edits.{edits_view, with_edits}
use Rattle.rinqebo_faults.specs.Repairs.{rules_edit}
use Rattle.rinqebo_faults.proofs.refusal_repairs.leave_out_unknown.Given as goal

abbrev pub invariant-loop-error : goal.invariant-loop-error
invariant-loop-error l =
    with_edits (edits_view l.edits)
    (map (rules_edit l.place) (map (λ error. string_bytes error.profile_name) (drop l.error-index l.errors)))
    ≡ with_edits (edits_view l.fn.edits)
    (map (rules_edit l.place) (map (λ error. string_bytes error.profile_name) l.errors))
