use Rattle.std.proofs.Common.{◌++◌, ◌∙◌, List, ap}
use Rattle.nextest_sources.specs.Warnings.{Warning}
use Rattle.rinqebo_load.specs.Warned.{warnings_met}
use Rattle.rinqebo_run.proofs.Loads.{accepted_answer, refused_answer}
use Rattle.rinqebo_run.proofs.Notes.{accepted_note, refused_note}
use Rattle.rinqebo_run.proofs.check.checked.Goals as goal

pub returns-in-Ok-clause-status : goal.returns-in-Ok-clause-status
returns-in-Ok-clause-status c =
    let session = c.args.session.now in
    accepted_answer session c.args.deny_warnings c.accepted.result c.in-Ok.ensures.verdict c.accepted.ensures.status
    (c.in-Ok.ensures.warnings ∙ ap (λ (ws : List Warning). ws ++ warnings_met session) c.new-warnings.ensures)
    c.accepted.ensures.found

pub returns-clause-status : goal.returns-clause-status
returns-clause-status c =
    refused_answer c.args.session.now c.args.deny_warnings c.in-Err.error c.refused.result c.in-Err.ensures.verdict
    c.new-warnings.ensures c.in-Err.ensures.refused c.refused.ensures.status c.refused.ensures.cause
    c.refused.ensures.faults c.refused.ensures.error

pub returns-in-Ok-clause-noted : goal.returns-in-Ok-clause-noted
returns-in-Ok-clause-noted c =
    accepted_note c.args.session.now c.args.deny_warnings c.in-Ok.config c.accepted.result c.in-Ok.ensures.means
    c.accepted.ensures.status c.accepted.ensures.noted

pub returns-clause-noted : goal.returns-clause-noted
returns-clause-noted c =
    refused_note c.args.session.now c.refused.result c.refused.ensures.status c.refused.ensures.noted
