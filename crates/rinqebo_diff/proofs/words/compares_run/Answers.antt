use Rattle.std.proofs.Common.{◌∙◌, refl}
use Rattle.rinqebo_request.specs.Lines.{line_of}
use Rattle.rinqebo_request.proofs.Choosing.{texts_or}
use Rattle.rinqebo_diff.proofs.Requesting.{keys_counted}
use Rattle.rinqebo_diff.proofs.words.compares_run.Goals as goal

pub returns : goal.returns
returns c =
    c.is_empty.ensures
    ∙ keys_counted (line_of c.args.matches.now) c.unwrap_or.result.now
    (texts_or c.values.result _ c.unwrap_or.result _ refl c.unwrap_or.ensures c.values.ensures)
