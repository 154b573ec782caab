use Rattle.std.proofs.Common.{subst}
use Rattle.rinqebo_request.specs.Lines.{line_of}
use Rattle.rinqebo_request.specs.Rows.{AreExplainedRows}
use Rattle.rinqebo_diff.proofs.Requesting.{compared}
use Rattle.rinqebo_diff.proofs.words.compared.Goals as goal

pub returns : goal.returns
returns c =
    let line = line_of c.args.matches.now in
    compared _ line _ _ (subst (λ mode. AreExplainedRows mode line c.in_ok-asked.asked) c.mode.ensures c.in_ok-asked.ensures)
    c.in_ok-compared_settings.ensures
