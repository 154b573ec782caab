use Rattle.std.proofs.Common.{◌&&◌, ◌==◌, not, length, sym}
use Rattle.std.specs.List.{list_any}
use Rattle.rinqebo_results.specs.Checked.{is_error}
use Rattle.rinqebo_run.proofs.Loads.{by_denied, by_error, by_none}
use Rattle.rinqebo_run.proofs.check.status_of.Goals as goal

pub returns-then-has_error : goal.returns-then-has_error
returns-then-has_error c =
    let findings = c.args.findings.now in
    sym (by_error (list_any is_error findings) (c.args.deny_warnings && not (length findings == 0)) c.has_error.result
    c.has_error.ensures c.if-has_error.true)

pub returns-then-is_denied : goal.returns-then-is_denied
returns-then-is_denied c =
    let findings = c.args.findings.now in
    sym (by_denied (list_any is_error findings) (c.args.deny_warnings && not (length findings == 0)) c.has_error.result
    c.is_denied.result c.has_error.ensures c.if-has_error.false c.is_denied.ensures c.if-is_denied.true)

pub returns : goal.returns
returns c =
    let findings = c.args.findings.now in
    sym (by_none (list_any is_error findings) (c.args.deny_warnings && not (length findings == 0)) c.has_error.result
    c.is_denied.result c.has_error.ensures c.if-has_error.false c.is_denied.ensures c.if-is_denied.false)
