use Rattle.rinqebo_results.proofs.Refused.{fails_in}
use Rattle.rinqebo_results.proofs.Statuses.{is_answered}
use Rattle.rinqebo_run.proofs.Notes.{noted_in}
use Rattle.rinqebo_run.proofs.run.answer_of.Goals as goal

pub returns-clause-ok : goal.returns-clause-ok
returns-clause-ok g c =
    is_answered c.args.request.now c.args.gathered.now c.in_ok-session.session c.answer_in.result
    c.in_ok-session.ensures.begun c.answer_in.ensures.ok c.answer_in.ensures.about c.answer_in.ensures.warned
    c.answer_in.ensures.looked_up c.answer_in.ensures.objects

pub returns-clause-err : goal.returns-clause-err
returns-clause-err g c =
    fails_in c.args.request.now c.args.gathered.now c.in_ok-session.session c.answer_in.result
    c.in_ok-session.ensures.begun c.answer_in.ensures.err

pub returns-clause-noted : goal.returns-clause-noted
returns-clause-noted g c =
    noted_in c.args.request.now c.args.gathered.now c.in_ok-session.session c.answer_in.result
    c.in_ok-session.ensures.begun c.answer_in.ensures.noted
