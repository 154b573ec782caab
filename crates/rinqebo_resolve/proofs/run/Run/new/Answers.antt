use Rattle.rinqebo_resolve.proofs.Reporting.{answer_of}
use Rattle.rinqebo_resolve.proofs.run.Run.new.Goals as goal

pub returns : goal.returns
returns c = record {
  is_ending = c.ending_for-ending.ensures;
  done = answer_of c.args.request.now c.ending_for-ending.result c.ending_for-ending.ensures;
}
