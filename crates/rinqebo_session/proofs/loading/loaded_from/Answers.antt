use Rattle.std.proofs.Common.{ap, sym, ◌∙◌}
use Rattle.rinqebo_forms.specs.Requests.{request_of, request_view}
use Rattle.rinqebo_session.proofs.Loads.{failures_of}
use Rattle.rinqebo_session.proofs.loading.loaded_from.Goals as goal

pub returns-clause-err : goal.returns-clause-err
returns-clause-err c =
    failures_of c.args.request.now (request_view c.in_ok-asked.asked)
    (ap request_of (sym c.in-Ok.ensures.cases.0) ∙ c.in_ok-asked.ensures) c.loaded_by.result c.loaded_by.ensures.err
