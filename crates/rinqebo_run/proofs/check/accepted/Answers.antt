use Rattle.std.proofs.Common.{◌∙◌, ap}
use Rattle.rinqebo_results.specs.Checked.{accepted_status}
use Rattle.rinqebo_run.proofs.check.accepted.Goals as goal

pub returns-clause-status : goal.returns-clause-status
returns-clause-status c =
    c.status_of-status.ensures ∙ ap (accepted_status c.args.deny_warnings) c.deref.ensures.value

pub returns-clause-found : goal.returns-clause-found
returns-clause-found c =
    record {
      found = c.in_ok-findings.findings.items;
      all = c.in_ok-findings.ensures;
      shows = c.in_ok-report.ensures.findings;
    }

pub returns-clause-warned : goal.returns-clause-warned
returns-clause-warned c =
    let all = c.in_ok-findings.ensures in
    record {
      found = c.in_ok-findings.findings.items;
      begin = record { told = all.told; reports = all.reports; others = all.forms; are = all.are };
      shows = c.in_ok-report.ensures.findings;
    }
