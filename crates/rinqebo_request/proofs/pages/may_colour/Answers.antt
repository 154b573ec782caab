use Rattle.std.proofs.Common.{◌∙◌, ap, option_map, sym}
use Rattle.rinqebo_request.proofs.Choosing.{coloured, uncoloured}
use Rattle.rinqebo_request.proofs.pages.may_colour.Goals as goal

pub returns-in-Some : goal.returns-in-Some
returns-in-Some c =
    uncoloured c.args.environment.now.is_terminal _ _ (sym (ap (option_map (λ t. t.now)) c.in-Some.is) ∙ c.set.ensures)

pub returns-in-None : goal.returns-in-None
returns-in-None c =
    coloured c.args.environment.now.is_terminal _ (sym (ap (option_map (λ t. t.now)) c.in-None.is) ∙ c.set.ensures)
