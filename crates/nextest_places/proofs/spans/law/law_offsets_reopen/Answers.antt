use Rattle.nextest_places.proofs.spans.Reopened.{offsets_reopen}
use Rattle.nextest_places.proofs.spans.law.law_offsets_reopen.Goals as goal

pub returns : goal.returns
returns c = offsets_reopen
