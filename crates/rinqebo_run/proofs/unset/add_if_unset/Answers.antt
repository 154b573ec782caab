use Rattle.std.proofs.Common.{false, string_bytes}
use Rattle.rinqebo_results.proofs.Errors.{no_more}
use Rattle.rinqebo_run.proofs.unset.add_if_unset.Goals as goal

pub returns-then-shows_under : goal.returns-then-shows_under
returns-then-shows_under c = no_more false (string_bytes c.args.notes.now)
