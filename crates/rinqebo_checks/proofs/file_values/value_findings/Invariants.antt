use Rattle.std.proofs.Common.{◌≡◌, take}
use Rattle.rinqebo_faults.specs.Edits.{edits_view}
use Rattle.rinqebo_checks.specs.Faults.{AreSound, LeavesOutFiles, ReportFiles}
use Rattle.rinqebo_checks.proofs.file_values.value_findings.Given as goal

-- the findings report what is wrong with the files so far, and this is left out: nothing without a
-- fault
abbrev pub invariant-loop-place : goal.invariant-loop-place
invariant-loop-place l = record {
  reported : ReportFiles l.session.layers.items 0 (take l.place l.layers) l.findings.items;
  left_out : LeavesOutFiles 0 (take l.place l.layers) (edits_view l.fn.edits) (edits_view l.edits);
  sound : AreSound l.layers → l.edits ≡ l.fn.edits;
}
