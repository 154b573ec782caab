use Rattle.rinqebo_resolve.proofs.Reporting.{ended}
use Rattle.rinqebo_resolve.proofs.resolving.ending_in.Goals as goal

pub returns : goal.returns
returns c =
    ended _ c.in_ok-request.request c.args.gathered.now c.answer_of-outcome.result c.ended.result c.in_ok-request.ensures
    c.answer_of-outcome.ensures.ok c.answer_of-outcome.ensures.err c.ended.ensures
