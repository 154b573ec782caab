use Rattle.std.proofs.Common.{◌≡◌, [], drop}
use Rattle.std.specs.List.{flat_map}
use Rattle.rinqebo_faults.specs.Edits.{edits_view, with_edits}
use Rattle.rinqebo_checks.specs.Faults.{fault_edits}
use Rattle.rinqebo_checks.proofs.file_values.leave_out_faults.Given as goal

-- the edits so far, and those for the faults that are left; nothing is left out without a fault
abbrev pub invariant-loop-fault : goal.invariant-loop-fault
invariant-loop-fault l = record {
  edits : with_edits (edits_view l.edits) (flat_map (fault_edits l.place) (drop l.fault-index l.faults))
      ≡ with_edits (edits_view l.fn.edits) (flat_map (fault_edits l.place) l.faults);
  sound : l.faults ≡ [] → l.edits ≡ l.fn.edits;
}
