use Rattle.std.proofs.Common.{false, string_bytes}
use Rattle.rinqebo_results.specs.StandardError.{AddsNotes}
use Rattle.rinqebo_run.proofs.unset.add_notes.Given as goal

-- only notes were added
abbrev pub invariant-loop-key : goal.invariant-loop-key
invariant-loop-key l = AddsNotes false (string_bytes l.fn.notes) (string_bytes l.notes)
