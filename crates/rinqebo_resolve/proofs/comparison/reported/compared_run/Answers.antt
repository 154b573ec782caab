use Rattle.std.proofs.Common.{◌∙◌}
use Rattle.rinqebo_resolve.proofs.comparison.Receiving.{done_with}
use Rattle.rinqebo_resolve.proofs.comparison.reported.compared_run.Goals as goal

pub returns : goal.returns
returns c =
    let is = rw c.counts_origins.ensures at c.compared_for-name.ensures in
    record {
      name = c.compared_for-name.result.side;
      is_ending = is;
      is_side = c.side_number.ensures;
      done = λ first.
          let found = done_with c.args.from.now c.args.to.now _ c.compared_for-name.result.side
          c.compared_for-name.result.ending is first in
          (c.side_number.ensures ∙ found.0, found.1);
    }
