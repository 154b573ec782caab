use Rattle.rinqebo_request.proofs.words.no_tool_name.Goals as goal

pub returns : goal.returns
returns c = c.usage.ensures.invalid
