use Rattle.std.proofs.Common.{sym, ◌∙◌}
use Rattle.nextest_documents.proofs.Ways.{lost_without}
use Rattle.nextest_documents.proofs.along.way_along.Goals as goal

pub returns-in-None-2 : goal.returns-in-None-2
returns-in-None-2 c =
    lost_without c.args.layer c.args.path.now c.in-None-2.is (sym c.is_empty.ensures ∙ c.if-is_empty.false)
