use Rattle.rinqebo_diff.proofs.side_options.both_options.Goals as goal

pub returns : goal.returns
returns c = (c.in_ok-left.ensures, c.in_ok-right.ensures c.args.environment.now c.in_ok-copy.ensures)
