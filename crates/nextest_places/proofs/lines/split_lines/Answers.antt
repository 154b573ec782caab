use Rattle.std.proofs.Common.{◌∙◌}
use Rattle.nextest_places.proofs.FirstLines.{front_boundary, front_is}
use Rattle.nextest_places.proofs.Sections.{rest_is}
use Rattle.nextest_places.proofs.lines.split_lines.Goals as goal

pub split_at-requires : goal.split_at-requires
split_at-requires c = rw c.end_of.ensures (front_boundary c.args.count c.args.text.now c.utf8.text)

pub returns-clause-front : goal.returns-clause-front
returns-clause-front c = c.split_at.ensures.front ∙ rw c.end_of.ensures (front_is c.args.count c.args.text.now)

pub returns-clause-rest : goal.returns-clause-rest
returns-clause-rest c = c.split_at.ensures.back ∙ rw c.end_of.ensures (rest_is c.args.count c.args.text.now)
