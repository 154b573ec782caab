use Rattle.std.proofs.Common.{◌∙◌, ap, map, string_bytes}
use Rattle.rinqebo_report.proofs.AlikeRequests.{alike}
use Rattle.rinqebo_report.proofs.reported_request.ReportedRequest.copied.Goals as goal

pub returns : goal.returns
returns c =
    alike c.args.self.now.command c.in_ok-copied_test.ensures
    (c.in_ok-copied_texts.ensures ∙ ap (map string_bytes) c.deref.ensures.value) c.in_ok-copied_text.ensures
    c.in_ok-copied_text-2.ensures c.in_ok-copied_text-3.ensures
