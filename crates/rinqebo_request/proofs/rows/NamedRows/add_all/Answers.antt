use Rattle.std.proofs.Common.{◌∙◌, [], Bor, List, ℕ}
use Rattle.rinqebo_request.proofs.NamedKeys.{known_step, rows_step}
use Rattle.rinqebo_request.proofs.rows.NamedRows.add_all.Goals as goal

pub loop-key-preserved : goal.loop-key-preserved
loop-key-preserved c =
    let none : Bor (List ℕ) = record { ref_ptr = (0, 0); now = [] } in
    record {
      rows = rows_step c.args.mode c.args.keys.now c.loop-key.key-index none _ _ c.loop-key-test.true c.in_ok-add.ensures.0
          ∙ c.loop-key.invariant.rows;
      known = λ rest. c.loop-key.invariant.known
          (known_step c.args.mode c.args.keys.now c.loop-key.key-index none c.loop-key-test.true c.in_ok-add.ensures.1 rest);
    }
