use Rattle.rinqebo_request.proofs.check_words.no_input.Goals as goal

pub returns : goal.returns
returns c = c.usage.ensures.invalid
