use Rattle.std.proofs.lemmas.Result.{IfOk-weaker}
use Rattle.rinqebo_diff.proofs.Evaluating.{shown_of}
use Rattle.rinqebo_changes.specs.Sides.RunRows.{AreRunRows}
use Rattle.rinqebo_diff.specs.Evaluated.{evaluation_of}
use Rattle.rinqebo_diff.specs.RunChanges.{AreRunRowsOf}
use Rattle.rinqebo_diff.proofs.sides.rows_of_run.Goals as goal

pub returns : goal.returns
returns c =
    let evaluation = evaluation_of c.args.loaded.now c.args.evaluated.now in
    IfOk-weaker c.run_rows.result
    (λ rows. AreRunRows c.in_ok-entries.entries.items c.in_ok-scripts.scripts rows.items)
    (λ rows. AreRunRowsOf evaluation rows.items)
    (λ rows are. record {
      entries = c.in_ok-entries.entries.items;
      are_entries = shown_of _ _ _ _ c.in_ok-entries.entries.items c.deref.ensures.value c.deref-2.ensures.value
          c.in_ok-entries.ensures;
      scripts = c.in_ok-scripts.scripts;
      are_scripts = c.in_ok-scripts.ensures;
      are_rows = are;
    }) c.run_rows.ensures
