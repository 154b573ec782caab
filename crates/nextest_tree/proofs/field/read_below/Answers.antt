use Rattle.nextest_tree.proofs.Reading.{can_go_back, read_below_whole}
use Rattle.nextest_tree.proofs.field.read_below.Goals as goal

pub leave-requires : goal.leave-requires
leave-requires g c = can_go_back _ _ _ _ _ _ _ c.in_ok-outer.ensures.outer c.in_ok-outer.ensures.ok
    c.in_ok-value.ensures.reads

pub returns-clause-reads : goal.returns-clause-reads
returns-clause-reads g c =
    read_below_whole _ _ _ _ _ _ _ _ c.in_ok-outer.ensures.outer c.in_ok-outer.ensures.ok
    c.in_ok-value.ensures.reads c.leave.ensures
