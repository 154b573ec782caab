use Rattle.std.proofs.Common.{◌∙◌, ap}
use Rattle.rinqebo_request.specs.Requests.{mode_by}
use Rattle.rinqebo_request.proofs.Choosing.{chosen_one}
use Rattle.rinqebo_request.proofs.words.mode.Goals as goal

pub returns : goal.returns
returns c =
    c.mode_of.ensures ∙ ap mode_by (chosen_one c.value.result _ c.unwrap_or.result _ c.unwrap_or.ensures c.value.ensures)
