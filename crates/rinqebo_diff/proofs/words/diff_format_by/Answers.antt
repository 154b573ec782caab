use Rattle.std.proofs.Common.{Some, ap}
use Rattle.rinqebo_request.proofs.Choosing.{chosen_one}
use Rattle.rinqebo_diff.proofs.words.diff_format_by.Goals as goal

pub returns-in-github : goal.returns-in-github
returns-in-github c =
    (ap Some c.in-github.is, chosen_one c.set.result _ c.unwrap_or.result _ c.unwrap_or.ensures c.set.ensures)
