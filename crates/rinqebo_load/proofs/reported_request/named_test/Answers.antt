use Rattle.rinqebo_report.proofs.AlikeRequests.{alike_test}
use Rattle.rinqebo_load.proofs.reported_request.named_test.Goals as goal

pub returns : goal.returns
returns c = alike_test c.in_ok-text_of.ensures c.in_ok-from_str.ensures.ok
