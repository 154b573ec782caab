-- The rows that a command asks for.
use Rattle.std.proofs.Common.{ℕ, List, Result, Ok, Err, Vec, String, IfOk, map, refl}
use Rattle.std.specs.declared.alloc.Global.{Global}
use Rattle.nextest_config.specs.Headline.{Request, Resolves}
use Rattle.nextest_config.specs.RowView.{row_view}
use Rattle.nextest_config.specs.RunView.{answer_view, run_view}
use Rattle.nextest_config.specs.declared.run.fault.ResolveFault.{ResolveFault}
use Rattle.nextest_config.specs.declared.run.row.TestRow.{TestRow}
use Rattle.nextest_sources.specs.Inputs.{LoadInputs}
use Rattle.nextest_sources.specs.Warnings.{Warning}
use Rattle.nextest_explain.specs.Explained.{toy_readings, Asks, AreRowsFor}
use Rattle.nextest_explain.specs.declared.command.Command.{Command}

-- what a run answers for the request of a command
pub rows_for : (command : Command) (files : LoadInputs) (request : Request (String Global))
    (answer : Result (Vec TestRow Global) ResolveFault)
    (old new : List Warning) (before after : List ℕ)
    → Asks command files request → Resolves toy_readings request (run_view (answer_view answer) old new before after)
    → IfOk answer (λ rows. AreRowsFor command files (map row_view rows.items))
rows_for command files request (Ok rows) old new before after asks resolves =
    record {
      request = request;
      asks = asks;
      run =
          run_view (answer_view (Ok rows)) old new before after;
      answered = refl;
      resolves = resolves;
    }
rows_for command files request (Err fault) old new before after asks resolves = tt
