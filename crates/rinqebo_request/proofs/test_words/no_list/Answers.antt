use Rattle.rinqebo_request.proofs.test_words.no_list.Goals as goal

pub returns : goal.returns
returns c = c.in_ok-usage.ensures.invalid
