use Rattle.rinqebo_request.proofs.rows.is_table.Goals as goal

pub returns : goal.returns
returns c = c.usage.ensures.invalid
