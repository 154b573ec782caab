use Rattle.std.proofs.Common.{sym}
use Rattle.nextest_places.proofs.spans.Stepping.{start_place, start_position}
use Rattle.nextest_places.proofs.spans.position.end_of.Goals as goal

pub end_from-requires-clause-place : goal.end_from-requires-clause-place
end_from-requires-clause-place c = start_place c.args.text.now c.utf8.text

pub end_from-requires-clause-position : goal.end_from-requires-clause-position
end_from-requires-clause-position c = sym (start_position c.args.unit c.args.text.now)
