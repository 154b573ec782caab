use Rattle.std.proofs.Common.{ap, length, refl, arith}
use Rattle.rinqebo_faults.specs.Edits.{edits_view}
use Rattle.rinqebo_checks.proofs.LeavingOutValues.{next_fault}
use Rattle.rinqebo_checks.proofs.file_values.leave_out_faults.Goals as goal

pub loop-fault-init : goal.loop-fault-init
loop-fault-init c = record { edits = refl; sound = λ none. refl }

pub loop-fault-preserved : goal.loop-fault-preserved
loop-fault-preserved c = record {
  edits = next_fault c.args.place (edits_view c.args.edits.now) (edits_view c.loop-fault.edits)
      (edits_view c.leave_out_fault.new.edits) c.args.faults.now c.loop-fault.fault-index c.fault-item.result
      (omega arith) c.fault-item.is c.in_ok-leave_out_fault.ensures c.loop-fault.invariant.edits;
  sound = λ none. absurd (omega (arith, ap length none));
}
