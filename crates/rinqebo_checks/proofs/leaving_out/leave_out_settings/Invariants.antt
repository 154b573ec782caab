use Rattle.std.proofs.Common.{◌≡◌, drop, map}
use Rattle.rinqebo_faults.specs.Edits.{edits_view, with_edits}
use Rattle.rinqebo_faults.specs.ElementRepairs.{setting_edit}
use Rattle.rinqebo_checks.proofs.leaving_out.leave_out_settings.Given as goal

-- the edits so far, and those for the faults that are left
abbrev pub invariant-loop-fault : goal.invariant-loop-fault
invariant-loop-fault l =
    with_edits (edits_view l.edits)
    (map (λ fault. setting_edit l.place fault.path.items) (drop l.fault-index l.faults))
    ≡ with_edits (edits_view l.fn.edits) (map (λ fault. setting_edit l.place fault.path.items) l.faults)
