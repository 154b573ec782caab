use Rattle.std.proofs.Common.{false, string_bytes}
use Rattle.rinqebo_results.proofs.Errors.{more, no_more}
use Rattle.rinqebo_run.proofs.unset.add_notes.Goals as goal

pub loop-key-init : goal.loop-key-init
loop-key-init c = no_more false (string_bytes c.args.notes.now)

pub loop-key-preserved : goal.loop-key-preserved
loop-key-preserved c = more false _ _ _ c.loop-key.invariant c.in_ok-add_if_unset.ensures
