use Rattle.std.proofs.Common.{◌∙◌, ap, map}
use Rattle.rinqebo_report.proofs.AlikeRequests.{alike}
use Rattle.rinqebo_load.proofs.reported_request.reported_request.Goals as goal

pub returns : goal.returns
returns c =
    alike c.args.request.now.words.command c.in_ok-test_in.ensures
    (c.in_ok-keys_of.ensures ∙ ap (map (λ key. key.now)) c.deref.ensures.value) c.in_ok-text_of.ensures
    c.in_ok-text_of-2.ensures (c.in_ok-text_of-3.ensures ∙ c.list_path.ensures)
