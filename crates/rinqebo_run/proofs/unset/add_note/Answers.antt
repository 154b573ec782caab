use Rattle.std.proofs.lemmas.Result.{on_ok_weaker}
use Rattle.rinqebo_results.proofs.Errors.{one_note}
use Rattle.rinqebo_run.proofs.unset.add_note.Goals as goal

pub returns : goal.returns
returns c = on_ok_weaker c.push_note.result (one_note c.as_str.result.now _ _) c.push_note.ensures
