use Rattle.std.proofs.lemmas.Result.{on_ok_weaker, IfErr-weaker}
use Rattle.std.proofs.Common.{refl}
use Rattle.rinqebo_results.proofs.Errors.{for_request, stopped}
use Rattle.rinqebo_results.specs.declared.list_stop.ListStop.TheVariants as stops
use Rattle.rinqebo_results.proofs.Writing.{list_stopped, list_reported}
use Rattle.rinqebo_results.proofs.list_text.write_list.Goals as goal

pub returns-clause-ok : goal.returns-clause-ok
returns-clause-ok g c =
    on_ok_weaker c.write_in.result
    (list_reported c.args.request.now c.args.gathered.now c.args.list.now c.in_ok-session.session _ _
    c.in_ok-session.ensures.begun c.requires.question c.requires.format)
    c.write_in.ensures.ok

pub returns-clause-err : goal.returns-clause-err
returns-clause-err g c =
    IfErr-weaker c.write_in.result _ _
    (λ fault. list_stopped c.args.request.now c.args.gathered.now c.args.list.now c.in_ok-session.session _ _ fault
    c.in_ok-session.ensures.begun c.requires.question c.requires.format)
    c.write_in.ensures.err

pub returns-in_err-session-clause-errors : goal.returns-in_err-session-clause-errors
returns-in_err-session-clause-errors g c quiet =
    stopped _ _ c.from_residual.result (stops.Refused c.in_err-session.field-0.0) c.from_residual.ensures.1 refl

pub returns-clause-errors : goal.returns-clause-errors
returns-clause-errors g c quiet =
    for_request c.args.request.now c.args.gathered.now c.in_ok-session.session _ _
    c.in_ok-session.ensures.begun c.write_in.result
    (c.write_in.ensures.errors quiet)
